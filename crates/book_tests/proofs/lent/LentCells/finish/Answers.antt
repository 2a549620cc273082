use Rattle.std.proofs.Common.{refl}
use Rattle.cell_book.specs.Glimpses.{glimpse}
use Rattle.book_tests.proofs.Lending.{fits_self, begins_sees, makes_sees}
use Rattle.cell_book.proofs.Stepping.{sees_whole, sees_place, finishes_sound, finishes_opens}
use Rattle.book_tests.proofs.lent.LentCells.finish.Goals as goal

pub returns-clause-step : goal.returns-clause-step
returns-clause-step g c = (c.args.self.now.book.now, c.finish.new.self, (fits_self (g.L.CellLaw.keeps c.args.self.now.law) c.args.self.now.book.now c.requires.ready), c.finish.ensures, (sees_whole _ _ (glimpse c.args.self.now.book.now) c.finish.new.self, λ _. refl), sees_place c.args.work.place c.finish.new.self)

pub returns-clause-same : goal.returns-clause-same
returns-clause-same g c = (refl, refl, λ r. (c.requires.keeps c.args.self.now.book.now c.finish.new.self (fits_self (g.L.CellLaw.keeps c.args.self.now.law) c.args.self.now.book.now c.requires.ready) c.finish.ensures, finishes_sound c.args.self.now.book.now c.finish.new.self c.args.work c.args.value r.1 c.finish.ensures))

pub returns-clause-held : goal.returns-clause-held
returns-clause-held g c = finishes_opens c.args.self.now.book.now c.finish.new.self c.args.work c.args.value c.finish.ensures
