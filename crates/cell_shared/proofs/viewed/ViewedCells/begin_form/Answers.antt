use Rattle.std.proofs.Common.{true≢false, sym}
use Rattle.cell_book.specs.Glimpses.{glimpse}
use Rattle.cell_book.proofs.Stepping.{sees_whole, begins_new}
use Rattle.cell_shared.specs.Growing.{counted}
use Rattle.cell_shared.proofs.Viewing.{foresees, if_fresh, begins_sees, begins_open_if}
use Rattle.cell_shared.proofs.viewed.ViewedCells.begin_form.Goals as goal

pub begin_form-requires-clause-keeps : goal.begin_form-requires-clause-keeps
begin_form-requires-clause-keeps g c =
    let p = c.args.self.now.pass.now in
    λ a b answer k h. c.requires.keeps a b answer (foresees p.leads (g.L.CellLaw.keeps c.args.self.now.book.now.law) p.seen (counted p.claims) a k) h

pub returns-clause-step : goal.returns-clause-step
returns-clause-step g c =
    let p = c.args.self.now.pass.now in
    let st = c.begin_form.ensures.step in
    let b = c.begin_form.new.pass.seen in
    (st.0, b, foresees p.leads (g.L.CellLaw.keeps c.args.self.now.book.now.law) p.seen (counted p.claims) st.0 st.1, st.2, (sees_whole p.leads (counted c.begin_form.new.pass.claims) (glimpse p.seen) b, λ is. absurd (true≢false (sym is))), begins_sees c.begin_form.result b)

pub returns-clause-open : goal.returns-clause-open
returns-clause-open g c = let st = c.begin_form.ensures.step in begins_open_if st.0 c.begin_form.new.pass.seen c.args.form c.begin_form.result st.2

pub returns-clause-fresh : goal.returns-clause-fresh
returns-clause-fresh g c = let st = c.begin_form.ensures.step in if_fresh (counted c.args.self.now.pass.now.claims) st.0 c.begin_form.result st.1.opened (begins_new st.0 c.begin_form.new.pass.seen c.args.form c.begin_form.result st.2)
