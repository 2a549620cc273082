use Rattle.std.proofs.Common.{Bool, true≢false, sym, subst}
use Rattle.cell_book.specs.Glimpses.{glimpse}
use Rattle.cell_book.proofs.Stepping.{sees_whole}
use Rattle.cell_shared.specs.Growing.{counted, Noted}
use Rattle.cell_shared.proofs.Viewing.{foresees, noted_stays, finds_sees, finds_same}
use Rattle.cell_shared.proofs.viewed.ViewedCells.open_future.Goals as goal

pub returns-clause-step : goal.returns-clause-step
returns-clause-step g c =
    let p = c.args.self.now.pass.now in
    let st = c.open_future.ensures.step in
    let b = c.open_future.new.pass.seen in
    (st.0, b, foresees p.leads (g.L.CellLaw.keeps c.args.self.now.book.now.law) p.seen (counted p.claims) st.0 st.1, st.2, (sees_whole p.leads (counted c.open_future.new.pass.claims) (glimpse p.seen) b, λ is. absurd (true≢false (sym is))), finds_sees c.open_future.result b)

pub returns-clause-noted : goal.returns-clause-noted
returns-clause-noted g c = λ x n.
    let p = c.args.self.now.pass.now in
    let st = c.open_future.ensures.step in
    let b = c.open_future.new.pass.seen in
    subst (λ (z : Bool). Noted z b x) (sym c.open_future.ensures.table.1) (noted_stays p.leads (g.L.CellLaw.keeps c.args.self.now.book.now.law) p.seen (counted p.claims) st.0 b st.1 (finds_same st.0 b c.open_future.result st.2) x n)
