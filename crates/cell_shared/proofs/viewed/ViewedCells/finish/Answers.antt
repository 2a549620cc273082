use Rattle.std.proofs.Common.{true≢false, sym}
use Rattle.cell_book.specs.Glimpses.{glimpse}
use Rattle.cell_book.proofs.Stepping.{sees_whole, sees_place}
use Rattle.cell_shared.specs.Growing.{counted}
use Rattle.cell_shared.proofs.Viewing.{foresees}
use Rattle.cell_shared.proofs.viewed.ViewedCells.finish.Goals as goal

pub finish-requires-clause-keeps : goal.finish-requires-clause-keeps
finish-requires-clause-keeps g c =
    let p = c.args.self.now.pass.now in
    λ a b k h. c.requires.keeps a b (foresees p.leads (g.L.CellLaw.keeps c.args.self.now.book.now.law) p.seen (counted p.claims) a k) h

pub returns-clause-step : goal.returns-clause-step
returns-clause-step g c =
    let p = c.args.self.now.pass.now in
    let st = c.finish.ensures.step in
    let b = c.finish.new.pass.seen in
    (st.0, b, foresees p.leads (g.L.CellLaw.keeps c.args.self.now.book.now.law) p.seen (counted p.claims) st.0 st.1, st.2, (sees_whole p.leads (counted c.finish.new.pass.claims) (glimpse p.seen) b, λ is. absurd (true≢false (sym is))), sees_place c.args.work.place b)
