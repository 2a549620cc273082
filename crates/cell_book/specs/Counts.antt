-- What a book counts of its parts.
use Rattle.std.specs.Prelude.{ℕ, Bool, true, false, List, length, count_by, sum_by}
use Rattle.cell_book.specs.declared.answers.Totals.{Totals}
use Rattle.cell_book.specs.declared.cell.State.{State}
use Rattle.cell_book.specs.declared.cell.State.TheVariants.{Done}
use Rattle.cell_book.specs.declared.cell.ClaimEnd.{ClaimEnd}
use Rattle.cell_book.specs.declared.cell.ClaimEnd.TheVariants.{Error}
use Rattle.cell_book.specs.declared.cell.Attempt.{Attempt}
use Rattle.cell_book.specs.declared.cell.Cell.{Cell}
use Rattle.cell_book.specs.Account.{Account}

abbrev pub is_done : State → Bool
is_done (Done v) = true
is_done _ = false

abbrev pub is_error : ClaimEnd → Bool
is_error (Error why) = true
is_error _ = false

-- how many attempts at a part ended by an error
abbrev pub errors_at : Cell → ℕ
errors_at p = count_by (λ (x : Attempt). is_error x.end) p.attempts

-- the parts made, those that gave a value, and the attempts at parts that threw
abbrev pub totals_of : List Cell → Totals
totals_of cells = record { made = length cells; realised = count_by (λ (p : Cell). is_done p.state) cells; failed = sum_by errors_at cells }
