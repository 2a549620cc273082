use Rattle.std.proofs.Common.{refl}
use Rattle.cell_book.specs.Glimpses.{glimpse}
use Rattle.book_tests.proofs.Lending.{fits_self, begins_sees, makes_sees, begins_open_if}
use Rattle.cell_book.proofs.Stepping.{sees_whole, sees_place, begins_sound, begins_new, begun_open}
use Rattle.book_tests.proofs.lent.LentCells.begin_form.Goals as goal

pub returns-clause-step : goal.returns-clause-step
returns-clause-step g c = (c.args.self.now.book.now, c.begin_form.new.self, (fits_self (g.L.CellLaw.keeps c.args.self.now.law) c.args.self.now.book.now c.requires.ready), c.begin_form.ensures, (sees_whole _ _ (glimpse c.args.self.now.book.now) c.begin_form.new.self, λ _. refl), begins_sees c.begin_form.result c.begin_form.new.self)

pub returns-clause-same : goal.returns-clause-same
returns-clause-same g c = (refl, refl, λ r. (c.requires.keeps c.args.self.now.book.now c.begin_form.new.self c.begin_form.result (fits_self (g.L.CellLaw.keeps c.args.self.now.law) c.args.self.now.book.now c.requires.ready) c.begin_form.ensures, begins_sound c.args.self.now.book.now c.begin_form.new.self c.args.form c.begin_form.result r.1 c.begin_form.ensures))

pub returns-clause-fresh : goal.returns-clause-fresh
returns-clause-fresh g c = begins_new c.args.self.now.book.now c.begin_form.new.self c.args.form c.begin_form.result c.begin_form.ensures

pub returns-clause-open : goal.returns-clause-open
returns-clause-open g c = begins_open_if c.args.self.now.book.now c.begin_form.new.self c.args.form c.begin_form.result c.begin_form.ensures
