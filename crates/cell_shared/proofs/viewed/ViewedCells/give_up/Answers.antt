use Rattle.std.proofs.Common.{true≢false, sym}
use Rattle.cell_book.specs.Glimpses.{glimpse}
use Rattle.cell_book.proofs.Stepping.{sees_whole, sees_place, given_up_noted}
use Rattle.cell_shared.specs.Growing.{counted}
use Rattle.cell_shared.proofs.Viewing.{foresees}
use Rattle.cell_shared.proofs.viewed.ViewedCells.give_up.Goals as goal

pub give_up-requires-clause-keeps : goal.give_up-requires-clause-keeps
give_up-requires-clause-keeps g c =
    let p = c.args.self.now.pass.now in
    λ a b k h. c.requires.keeps a b (foresees p.leads (g.L.CellLaw.keeps c.args.self.now.book.now.law) p.seen (counted p.claims) a k) h

pub returns-clause-step : goal.returns-clause-step
returns-clause-step g c =
    let p = c.args.self.now.pass.now in
    let st = c.give_up.ensures.step in
    let b = c.give_up.new.pass.seen in
    (st.0, b, foresees p.leads (g.L.CellLaw.keeps c.args.self.now.book.now.law) p.seen (counted p.claims) st.0 st.1, st.2, (sees_whole p.leads (counted c.give_up.new.pass.claims) (glimpse p.seen) b, λ is. absurd (true≢false (sym is))), sees_place c.args.work.place b)

pub returns-clause-gave_up : goal.returns-clause-gave_up
returns-clause-gave_up g c = let st = c.give_up.ensures.step in given_up_noted st.0 c.give_up.new.pass.seen c.args.work st.2
