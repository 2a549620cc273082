use Rattle.std.proofs.Common.{refl}
use Rattle.cell_book.specs.Glimpses.{glimpse}
use Rattle.cell_book.specs.Whole.{is_all}
use Rattle.cell_book.proofs.Stepping.{gives_up_opens, sees_whole, sees_place}
use Rattle.cell_book.proofs.plain.PlainCellsCells.give_up.Goals as goal

pub returns-clause-held : goal.returns-clause-held
returns-clause-held c = gives_up_opens c.args.self.now.book.now c.give_up.new.self c.args.work c.give_up.ensures

pub returns-clause-step : goal.returns-clause-step
returns-clause-step c = (c.args.self.now.book.now, c.give_up.new.self, (refl, is_all c.args.self.now.book.now c.args.self.now.book.now refl), c.give_up.ensures, (sees_whole _ _ (glimpse c.args.self.now.book.now) c.give_up.new.self, λ _. refl), sees_place c.args.work.place c.give_up.new.self)
