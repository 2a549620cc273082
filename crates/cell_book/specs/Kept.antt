-- What a book keeps beside what contracts see of it: counts of makes, the values of the first forms, its claims by their numbers, a place before which no future is empty, and what totals tell.
use Rattle.std.specs.Prelude.{◌≡◌, ℕ, ◌≤◌, ◌<◌, Bool, true, false, cond, List, length, take, slice_get, Some, count_by, sum_by, min}
use Rattle.seq_values.specs.declared.value.Value.{Value}
use Rattle.seq_values.specs.declared.words.Kind.{Kind}
use Rattle.seq_values.specs.declared.words.Kind.TheVariants.{Lazy, Future}
use Rattle.cell_book.specs.declared.cell.State.{State}
use Rattle.cell_book.specs.declared.cell.State.TheVariants.{Empty, Forcing}
use Rattle.cell_book.specs.declared.cell.Cell.{Cell}
use Rattle.cell_book.specs.declared.claims.Entry.{Entry}
use Rattle.cell_book.specs.Account.{Account, made_by, IsFresh, IsSound}
use Rattle.cell_book.specs.Steps.{begun_form, values_in}
use Rattle.cell_book.specs.Counts.{is_done, errors_at}
use Rattle.cell_book.specs.Registers.{IsRegistered}

-- of each open claim, how many parts it has made
pub record CountsMakes (a : Account) (cell_makes form_makes : List ℕ) : Type 0 where
  pub cells_long : length cell_makes ≡ length a.cells
  pub forms_long : length form_makes ≡ length a.forms
  pub of_cells : (i claim n : ℕ) (p : Cell) → slice_get a.cells i ≡ Some p → p.state ≡ Forcing claim → slice_get cell_makes i ≡ Some n → n ≡ length (made_by claim a)
  pub of_forms : (k number claim n : ℕ) → slice_get a.forms k ≡ Some (begun_form number claim) → slice_get form_makes k ≡ Some n → n ≡ length (made_by claim a)

-- no claim has a number from next on
pub record IsKept (a : Account) (cell_makes form_makes : List ℕ) (settled : List Value) (next : ℕ) : Type 0 where
  pub sound : IsSound a
  pub fresh : (claim : ℕ) → next ≤ claim → IsFresh a claim
  pub makes : CountsMakes a cell_makes form_makes
  pub settled_first : settled ≡ take (length settled) (values_in a.forms)

abbrev pub tries_at : Cell → ℕ
tries_at p = length p.attempts

-- the counts that totals tell; there were no more attempts than claims
pub record IsCounted (cells : List Cell) (claims realised failed : ℕ) : Type 0 where
  pub realised_are : realised ≡ count_by (λ (p : Cell). is_done p.state) cells
  pub failed_are : failed ≡ sum_by errors_at cells
  pub tries : sum_by tries_at cells ≤ claims

abbrev pub is_future : Kind → Bool
is_future Lazy = false
is_future Future = true

abbrev pub is_empty : State → Bool
is_empty Empty = true
is_empty _ = false

-- it is an empty future
abbrev pub is_open_future : Cell → Bool
is_open_future p = cond (is_future p.kind) (is_empty p.state) false

-- no cell before this place is an empty future
pub record IsPastFutures (cells : List Cell) (first : ℕ) : Type 0 where
  pub within : first ≤ length cells
  pub before : (i : ℕ) (p : Cell) → i < first → slice_get cells i ≡ Some p → is_open_future p ≡ false

-- such a place, after the cell at a place came to a state
abbrev pub lowered_to : ℕ → ℕ → Kind → State → ℕ
lowered_to first at kind state = cond (cond (is_future kind) (is_empty state) false) (min first at) first

pub record IsWhole (a : Account) (cell_makes form_makes : List ℕ) (settled : List Value) (claims : List Entry) (first realised failed : ℕ) : Type 0 where
  pub kept : IsKept a cell_makes form_makes settled (length claims)
  pub registered : IsRegistered a claims
  pub counted : IsCounted a.cells (length claims) realised failed
  pub futures : IsPastFutures a.cells first
