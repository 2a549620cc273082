use Rattle.std.proofs.Common.{refl}
use Rattle.cell_book.specs.Glimpses.{glimpse}
use Rattle.book_tests.proofs.Lending.{fits_self, begins_sees, makes_sees}
use Rattle.cell_book.proofs.Stepping.{sees_whole, sees_place, makes_sound, makes_opens}
use Rattle.book_tests.proofs.lent.LentCells.make.Goals as goal

pub returns-clause-step : goal.returns-clause-step
returns-clause-step g c = (c.args.self.now.book.now, c.make.new.self, (fits_self (g.L.CellLaw.keeps c.args.self.now.law) c.args.self.now.book.now c.requires.ready), c.make.ensures, (sees_whole _ _ (glimpse c.args.self.now.book.now) c.make.new.self, λ _. refl), makes_sees c.make.result c.make.new.self)

pub returns-clause-same : goal.returns-clause-same
returns-clause-same g c = (refl, refl, λ r. (c.requires.keeps c.args.self.now.book.now c.make.new.self c.make.result (fits_self (g.L.CellLaw.keeps c.args.self.now.law) c.args.self.now.book.now c.requires.ready) c.make.ensures, makes_sound c.args.self.now.book.now c.make.new.self c.args.by.now c.args.term c.args.kind c.make.result r.1 c.make.ensures))

pub returns-clause-held : goal.returns-clause-held
returns-clause-held g c = makes_opens c.args.self.now.book.now c.make.new.self c.args.by.now c.args.term c.args.kind c.make.result c.make.ensures
