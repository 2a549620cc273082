use Rattle.std.proofs.Common.{true≢false, sym}
use Rattle.cell_book.specs.Glimpses.{glimpse}
use Rattle.cell_book.proofs.Stepping.{sees_whole, sees_spent}
use Rattle.cell_shared.specs.Growing.{counted}
use Rattle.cell_shared.proofs.Viewing.{foresees, makes_sees}
use Rattle.cell_shared.proofs.viewed.ViewedCells.make.Goals as goal

pub make-requires-clause-keeps : goal.make-requires-clause-keeps
make-requires-clause-keeps g c =
    let p = c.args.self.now.pass.now in
    λ a b answer k h. c.requires.keeps a b answer (foresees p.leads (g.L.CellLaw.keeps c.args.self.now.book.now.law) p.seen (counted p.claims) a k) h

pub returns-clause-step : goal.returns-clause-step
returns-clause-step g c =
    let p = c.args.self.now.pass.now in
    let st = c.make.ensures.step in
    let b = c.make.new.pass.seen in
    (st.0, b, foresees p.leads (g.L.CellLaw.keeps c.args.self.now.book.now.law) p.seen (counted p.claims) st.0 st.1, st.2, (sees_whole p.leads (counted c.make.new.pass.claims) (glimpse p.seen) b, λ is. absurd (true≢false (sym is))), makes_sees c.make.result b)

pub returns-clause-spent : goal.returns-clause-spent
returns-clause-spent g c = let st = c.make.ensures.step in sees_spent st.0 c.make.new.pass.seen c.args.by.now c.args.term c.args.kind c.make.result st.2
