use Rattle.cell_book.proofs.Laws.{meets_law, keeps_law, still_lawful, still_owns, ended_held}
use Rattle.cell_book.proofs.Moves.{fails_holds}
use Rattle.cell_client.specs.Sevens.{IsSevens}
use Rattle.cell_client.proofs.Keeping.{sevens_fails, thrown_seen}
use Rattle.cell_client.proofs.throw.Goals as goal

pub fail-requires-clause-keeps : goal.fail-requires-clause-keeps
fail-requires-clause-keeps g c =
    let C = g.C.Cells in
    let s = c.args.cells.now in
    λ a b f h. keeps_law (C.alone s) (C.leads s) (C.law s) (C.noted s) (C.seen s) (C.held s) IsSevens a b (λ is. g.met.C.Cells.alone_free s is b) c.requires.law (λ p. sevens_fails a b c.args.work _ p h) f

pub returns-clause-law : goal.returns-clause-law
returns-clause-law g c =
    let C = g.C.Cells in
    let s = c.args.cells.now in
    let t = c.fail.new.self in
    let st = c.fail.ensures.step in
    let same = c.fail.ensures.same in
    still_lawful (C.alone s) (C.alone t) (C.law s) (C.law t) (C.noted s) (C.noted t) IsSevens st.1 (g.met.C.Cells.same_alone s t same) (g.met.C.Cells.same_law s t same) (λ d e. g.met.C.Cells.noted_one t d e) st.4.1
    (sevens_fails st.0 st.1 c.args.work _ (meets_law (C.alone s) (C.leads s) (C.law s) (C.noted s) (C.seen s) (C.held s) IsSevens st.0 c.requires.law st.2) st.3) c.requires.law

pub returns-clause-own : goal.returns-clause-own
returns-clause-own g c =
    let C = g.C.Cells in
    let s = c.args.cells.now in
    let t = c.fail.new.self in
    let st = c.fail.ensures.step in
    let w = c.args.by.now in
    still_owns (C.alone s) (C.leads s) (C.law s) (C.noted s) (C.seen s) (C.seen t) (C.held s) (C.held t) st.0 st.1 w c.requires.own st.2 (fails_holds st.0 st.1 c.args.work _ w.claim st.3 c.requires.apart) st.4.0 (ended_held (C.held s) (C.held t) c.args.work w.claim (c.fail.ensures.held w.claim) c.requires.apart c.requires.own.0)

pub returns-clause-thrown : goal.returns-clause-thrown
returns-clause-thrown g c = λ id p on at. (
    let C = g.C.Cells in
    let s = c.args.cells.now in
    let st = c.fail.ensures.step in
    thrown_seen (C.alone s) (C.leads s) (C.law s) (C.noted s) (C.seen s) (C.seen c.fail.new.self) (C.held s) st.0 st.1 c.args.work _ id p st.2 st.3 st.5 on at)
