use Rattle.std.proofs.Common.{refl}
use Rattle.cell_book.specs.Glimpses.{glimpse}
use Rattle.cell_book.specs.Whole.{is_all}
use Rattle.cell_book.proofs.Stepping.{finishes_opens, sees_whole, sees_place}
use Rattle.cell_book.proofs.plain.PlainCellsCells.finish.Goals as goal

pub returns-clause-held : goal.returns-clause-held
returns-clause-held c = finishes_opens c.args.self.now.book.now c.finish.new.self c.args.work c.args.value c.finish.ensures

pub returns-clause-step : goal.returns-clause-step
returns-clause-step c = (c.args.self.now.book.now, c.finish.new.self, (refl, is_all c.args.self.now.book.now c.args.self.now.book.now refl), c.finish.ensures, (sees_whole _ _ (glimpse c.args.self.now.book.now) c.finish.new.self, λ _. refl), sees_place c.args.work.place c.finish.new.self)
