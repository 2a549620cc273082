use Rattle.std.proofs.Common.{sym, subst, ◌<◌, ℕ}
use Rattle.cell_book.proofs.Laws.{meets_law, still_lawful, still_owns}
use Rattle.cell_book.proofs.Moves.{finds_onward}
use Rattle.cell_client.specs.Sevens.{IsSevens}
use Rattle.cell_client.proofs.Keeping.{sevens_finds, found_seen}
use Rattle.cell_client.proofs.next.Goals as goal

pub returns-clause-law : goal.returns-clause-law
returns-clause-law g c =
    let C = g.C.Cells in
    let s = c.args.cells.now in
    let t = c.open_future.new.self in
    let st = c.open_future.ensures.step in
    let same = c.open_future.ensures.same in
    still_lawful (C.alone s) (C.alone t) (C.law s) (C.law t) (C.noted s) (C.noted t) IsSevens st.1 (g.met.C.Cells.same_alone s t same) (g.met.C.Cells.same_law s t same) (λ d e. g.met.C.Cells.noted_one t d e) st.4.1
    (sevens_finds st.0 st.1 c.open_future.result (meets_law (C.alone s) (C.leads s) (C.law s) (C.noted s) (C.seen s) (C.held s) IsSevens st.0 c.requires.law st.2) st.3) c.requires.law

pub returns-clause-own : goal.returns-clause-own
returns-clause-own g c =
    let C = g.C.Cells in
    let s = c.args.cells.now in
    let t = c.open_future.new.self in
    let st = c.open_future.ensures.step in
    let w = c.args.by.now in
    still_owns (C.alone s) (C.leads s) (C.law s) (C.noted s) (C.seen s) (C.seen t) (C.held s) (C.held t) st.0 st.1 w c.requires.own st.2 ((finds_onward st.0 st.1 c.open_future.result w.claim st.3).holds) st.4.0 (subst (λ (n : ℕ). 0 < n) (sym (c.open_future.ensures.held w.claim)) c.requires.own.0)

pub returns-clause-found : goal.returns-clause-found
returns-clause-found g c =
    let st = c.open_future.ensures.step in found_seen st.0 st.1 c.open_future.result (g.C.Cells.seen c.open_future.new.self) st.3 st.5
