use Rattle.std.proofs.Common.{refl}
use Rattle.cell_book.specs.Glimpses.{glimpse}
use Rattle.book_tests.proofs.Lending.{fits_self, begins_sees, makes_sees}
use Rattle.cell_book.proofs.Stepping.{sees_whole, sees_place, gives_up_sound, gives_up_opens}
use Rattle.book_tests.proofs.lent.LentCells.give_up.Goals as goal

pub returns-clause-step : goal.returns-clause-step
returns-clause-step g c = (c.args.self.now.book.now, c.give_up.new.self, (fits_self (g.L.CellLaw.keeps c.args.self.now.law) c.args.self.now.book.now c.requires.ready), c.give_up.ensures, (sees_whole _ _ (glimpse c.args.self.now.book.now) c.give_up.new.self, λ _. refl), sees_place c.args.work.place c.give_up.new.self)

pub returns-clause-same : goal.returns-clause-same
returns-clause-same g c = (refl, refl, λ r. (c.requires.keeps c.args.self.now.book.now c.give_up.new.self (fits_self (g.L.CellLaw.keeps c.args.self.now.law) c.args.self.now.book.now c.requires.ready) c.give_up.ensures, gives_up_sound c.args.self.now.book.now c.give_up.new.self c.args.work r.1 c.give_up.ensures))

pub returns-clause-held : goal.returns-clause-held
returns-clause-held g c = gives_up_opens c.args.self.now.book.now c.give_up.new.self c.args.work c.give_up.ensures
