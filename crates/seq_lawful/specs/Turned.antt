-- Steps that a book doesn't take, since they leave no lawful book.
use Rattle.std.specs.Prelude.{◌≡◌, ℕ, false, Some, None}
use Rattle.seq_base.specs.declared.thrown.Thrown.{Thrown}
use Rattle.seq_values.specs.declared.words.Kind.TheVariants.{Lazy}
use Rattle.clj_script.specs.Trees.{Program}
use Rattle.seq_plan.specs.Plan.{Rules}
use Rattle.cell_book.specs.declared.cell.State.TheVariants as S
use Rattle.cell_book.specs.declared.cell.ClaimEnd.TheVariants as E
use Rattle.cell_book.specs.declared.cell.Cell.{Cell}
use Rattle.cell_book.specs.Account.{Account, Duty, cell_at}
use Rattle.cell_book.specs.Steps.{Ends, EndsPart}
use Rattle.seq_meaning.specs.Names.{Name}
use Rattle.seq_lawful.specs.Lawful.{Lawful}

-- A work is given up and the book doesn't note it; a lazy part keeps the error of an attempt.
pub record TurnedSteps : Type 0 where
  pub unnoted : (rules : Rules Name) (program : Program) (limit : ℕ) (a b : Account) (w : Duty) → a.gave_up ≡ false → Ends a w E.GivenUp (λ _. S.Empty) None b → ¬ (Lawful rules program limit b)
  pub stays_failed : (rules : Rules Name) (program : Program) (limit : ℕ) (a b : Account) (id claim : ℕ) (p : Cell) (why : Thrown) → cell_at a id ≡ Some p → p.kind ≡ Lazy → EndsPart a id claim (E.Error why) (λ _. S.Failed why) b → ¬ (Lawful rules program limit b)
