use Rattle.std.proofs.Common.{refl, subst, sym}
use Rattle.cell_book.specs.Account.{Account, IsSound}
use Rattle.cell_book.specs.Glimpses.{glimpse}
use Rattle.book_tests.proofs.Lending.{fits_self}
use Rattle.cell_book.proofs.Stepping.{sees_whole, finds_same, sees_future}
use Rattle.book_tests.proofs.lent.LentCells.open_future.Goals as goal

pub returns-clause-step : goal.returns-clause-step
returns-clause-step g c = (c.args.self.now.book.now, c.open_future.new.self, (fits_self (g.L.CellLaw.keeps c.args.self.now.law) c.args.self.now.book.now c.requires.ready), c.open_future.ensures, (sees_whole _ _ (glimpse c.args.self.now.book.now) c.open_future.new.self, λ _. refl), sees_future c.open_future.result c.open_future.new.self)

pub returns-clause-same : goal.returns-clause-same
returns-clause-same g c = (refl, refl, λ r. subst (λ (b : Account). g.L.CellLaw.keeps c.args.self.now.law b × IsSound b) (sym (finds_same c.args.self.now.book.now c.open_future.new.self c.open_future.result c.open_future.ensures)) r)
