use Rattle.std.proofs.Common.{refl, ℕ, Ok, Err}
use Rattle.std.specs.Prelude.{IfOk}
use Rattle.cell_book.specs.Account.{Account}
use Rattle.cell_book.specs.Steps.{MakeAnswer}
use Rattle.cell_book.specs.Glimpses.{glimpse, SeesCell}
use Rattle.cell_book.specs.Whole.{is_all}
use Rattle.cell_book.proofs.Stepping.{makes_opens, sees_whole}
use Rattle.cell_book.proofs.plain.PlainCellsCells.make.Goals as goal

sees : (answer : MakeAnswer) (b : Account) → IfOk answer (λ (id : ℕ). SeesCell id b (glimpse b))
sees (Ok id) b = refl
sees (Err r) b = tt

pub returns-clause-held : goal.returns-clause-held
returns-clause-held c = makes_opens c.args.self.now.book.now c.make.new.self c.args.by.now c.args.term c.args.kind c.make.result c.make.ensures

pub returns-clause-step : goal.returns-clause-step
returns-clause-step c = (c.args.self.now.book.now, c.make.new.self, (refl, is_all c.args.self.now.book.now c.args.self.now.book.now refl), c.make.ensures, (sees_whole _ _ (glimpse c.args.self.now.book.now) c.make.new.self, λ _. refl), sees c.make.result c.make.new.self)
