-- What the readers of a book answer.
use Rattle.std.specs.Prelude.{◌≡◌, ◌≢◌, ℕ, ◌<◌, ◌⊎◌, List, slice_get, Option, Some, None, option_map}
use Rattle.seq_values.specs.declared.value.Value.{Value}
use Rattle.cell_book.specs.declared.cell.State.{State}
use Rattle.cell_book.specs.declared.cell.State.TheVariants.{Done}
use Rattle.cell_book.specs.declared.cell.ClaimEnd.{ClaimEnd}
use Rattle.cell_book.specs.declared.cell.Attempt.{Attempt}
use Rattle.cell_book.specs.declared.cell.Cell.{Cell}
use Rattle.cell_book.specs.declared.cell.Form.{Form}
use Rattle.cell_book.specs.Account.{Account, cell_at, opens}

-- the claim that made the part, and how many parts it had made with it
abbrev pub maker_at : Cell → ℕ × ℕ
maker_at p = (p.maker, p.ordinal)

-- the number of a claim and how it ended
abbrev pub end_at : Attempt → ℕ × ClaimEnd
end_at x = (x.claim, x.end)

abbrev pub attempt_in : Option Cell → ℕ → Option (ℕ × ClaimEnd)
attempt_in None at = None
attempt_in (Some p) at = option_map end_at (slice_get p.attempts at)

abbrev pub done_in : State → Option Value
done_in (Done v) = Some v
done_in _ = None

-- the value of a part that is done
abbrev pub value_in : Option Cell → Option Value
value_in None = None
value_in (Some p) = done_in p.state

-- the open claim with the lowest number
abbrev pub IsLowestOpen : Account → Option ℕ → Type 0
IsLowestOpen a None = (c : ℕ) → opens c a ≡ 0
IsLowestOpen a (Some c) = (0 < opens c a) × ((d : ℕ) → d < c → opens d a ≡ 0)

-- the record of a claim of the book: a form's, or one of the attempts at a part
abbrev pub IsClaim : Account → ℕ → Attempt → Type 0
IsClaim a c x = (x.claim ≡ c) × (((k : ℕ) × (f : Form) × (slice_get a.forms k ≡ Some f) × (f.attempt ≡ x)) ⊎ ((id : ℕ) × (p : Cell) × (k : ℕ) × (cell_at a id ≡ Some p) × (slice_get p.attempts k ≡ Some x)))

-- who asked for the claim, and nothing where the number is no claim
abbrev pub IsAskerOf : Account → ℕ → Option (Option ℕ) → Type 0
IsAskerOf a c None = (x : Attempt) → ¬ IsClaim a c x
IsAskerOf a c (Some asker) = (x : Attempt) × IsClaim a c x × (x.asker ≡ asker)

-- the form that was begun with this number
abbrev pub FindsForm : List Form → ℕ → Option Form → Type 0
FindsForm forms number None = (k : ℕ) (f : Form) → slice_get forms k ≡ Some f → f.number ≢ number
FindsForm forms number (Some f) = (f.number ≡ number) × ((k : ℕ) × (slice_get forms k ≡ Some f))

-- its claim, with how it ended
abbrev pub IsFormClaim : Account → ℕ → Option (ℕ × ClaimEnd) → Type 0
IsFormClaim a number answer = (found : Option Form) × FindsForm a.forms number found × (answer ≡ option_map (λ (f : Form). end_at f.attempt) found)

abbrev pub form_value_in : Option Form → Option Value
form_value_in None = None
form_value_in (Some f) = f.value

-- the value that it gave
abbrev pub IsFormValue : Account → ℕ → Option Value → Type 0
IsFormValue a number answer = (found : Option Form) × FindsForm a.forms number found × (answer ≡ form_value_in found)
