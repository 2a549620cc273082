use Rattle.std.proofs.Common.{sym, subst, ◌<◌, ℕ}
use Rattle.cell_book.proofs.Laws.{meets_law, keeps_law, still_lawful, still_owns}
use Rattle.cell_book.proofs.Moves.{makes_holds}
use Rattle.cell_client.specs.Sevens.{IsSevens}
use Rattle.cell_client.proofs.Keeping.{sevens_makes, new_seen}
use Rattle.cell_client.proofs.add.Goals as goal

pub make-requires-clause-keeps : goal.make-requires-clause-keeps
make-requires-clause-keeps g c =
    let C = g.C.Cells in
    let s = c.args.cells.now in
    λ a b answer f h. keeps_law (C.alone s) (C.leads s) (C.law s) (C.noted s) (C.seen s) (C.held s) IsSevens a b (λ is. g.met.C.Cells.alone_free s is b) c.requires.law (λ p. sevens_makes a b c.args.by.now _ c.args.kind answer p h) f

pub returns-clause-law : goal.returns-clause-law
returns-clause-law g c =
    let C = g.C.Cells in
    let s = c.args.cells.now in
    let t = c.make.new.self in
    let st = c.make.ensures.step in
    let same = c.make.ensures.same in
    still_lawful (C.alone s) (C.alone t) (C.law s) (C.law t) (C.noted s) (C.noted t) IsSevens st.1 (g.met.C.Cells.same_alone s t same) (g.met.C.Cells.same_law s t same) (λ d e. g.met.C.Cells.noted_one t d e) st.4.1
    (sevens_makes st.0 st.1 c.args.by.now _ c.args.kind c.make.result (meets_law (C.alone s) (C.leads s) (C.law s) (C.noted s) (C.seen s) (C.held s) IsSevens st.0 c.requires.law st.2) st.3) c.requires.law

pub returns-clause-own : goal.returns-clause-own
returns-clause-own g c =
    let C = g.C.Cells in
    let s = c.args.cells.now in
    let t = c.make.new.self in
    let st = c.make.ensures.step in
    let w = c.args.by.now in
    still_owns (C.alone s) (C.leads s) (C.law s) (C.noted s) (C.seen s) (C.seen t) (C.held s) (C.held t) st.0 st.1 w c.requires.own st.2 (makes_holds st.0 st.1 w _ c.args.kind c.make.result w.claim st.3) st.4.0 (subst (λ (n : ℕ). 0 < n) (sym (c.make.ensures.held w.claim)) c.requires.own.0)

pub returns-clause-made : goal.returns-clause-made
returns-clause-made g c =
    let st = c.make.ensures.step in new_seen st.0 st.1 c.args.by.now _ c.args.kind c.make.result (g.C.Cells.seen c.make.new.self) st.3 st.5
