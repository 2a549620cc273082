-- What the evaluation of one work comes to, on a book that nobody shares.
use Rattle.std.specs.Prelude.{◌≡◌, ◌≢◌, ℕ, true, Option, Some, Result, Ok, Err, slice_get, IsTrue}
use Rattle.seq_base.specs.declared.thrown.Thrown.{Thrown}
use Rattle.clj_script.specs.Trees.{Top}
use Rattle.seq_values.specs.declared.value.Value.{Value as Coded}
use Rattle.seq_values.specs.WellFormed.{are_well_formed}
use Rattle.seq_plan.specs.Plan.{Rules}
use Rattle.seq_meaning.specs.Counts.{IsIn}
use Rattle.seq_meaning.specs.Evaluates.{form_plan}
use Rattle.seq_meaning.specs.Names.{Name}
use Rattle.cell_book.specs.declared.cell.ClaimEnd.TheVariants as E
use Rattle.cell_book.specs.declared.cell.Attempt.{Attempt}
use Rattle.cell_book.specs.declared.cell.Cell.{Cell}
use Rattle.cell_book.specs.declared.cell.Form.{Form}
use Rattle.cell_book.specs.declared.work.Place.{Place}
use Rattle.cell_book.specs.declared.work.Place.TheVariants as P
use Rattle.cell_book.specs.Account.{Account, Duty, begun, opens}
use Rattle.cell_book.specs.Glimpses.{Glimpse, glimpse, Reaches}
use Rattle.seq_lawful.specs.Runs.{script_in}
use Rattle.lawful_works.specs.Basis.{Basis, RunsTo, IsGood}
use Rattle.lawful_works.specs.Calls.{Opened, HasValue}
use Rattle.lawful_works.specs.declared.stop.Stop.{Stop}
use Rattle.lawful_works.specs.declared.stop.Stop.TheVariants as S

-- The work was just opened, on a part or on a form. It is at the start of its run.
pub data IsBegun (y : Basis) (h : Glimpse) (w : Duty) : Type 0 where
  begun_part : {asker : Option ℕ} {c : ℕ} → Opened h asker c w → IsBegun y h w
  begun_form : {number k : ℕ} {t : Top} → w.place ≡ P.Form number k → slice_get y.program.tops k ≡ Some t → IsTrue (are_well_formed w.outcomes) → RunsTo y h w y.limit (form_plan (script_in y.rules y.program y.limit w.outcomes) t) → IsBegun y h w

-- The work's claim is open, and no other.
pub record IsOnly (a : Account) (w : Duty) : Type 0 where
  pub own : opens w.claim a ≡ 1
  pub others : (c : ℕ) → c ≢ w.claim → opens c a ≡ 0

-- the claim of the work ended with this error
abbrev pub HasError : Glimpse → Duty → Thrown → Type 0
HasError h w why = At w.place
  where
    At : Place → Type 0
    At (P.Form number k) = (f : Form) × (h.forms k ≡ Some f) × (f.attempt.end ≡ E.Error why)
    At (P.Part id kind term) = (p : Cell) × (x : Attempt) × (h.cells id ≡ Some p) × IsIn x p.attempts × (x.claim ≡ w.claim) × (x.end ≡ E.Error why)

-- nothing was noted meanwhile
abbrev pub SameNotes : Account → Account → Type 0
SameNotes a b = (b.spent ≡ a.spent) × (b.gave_up ≡ a.gave_up)

-- the value, the error, or why there is neither
abbrev pub ComesTo : Account → Account → Duty → Result Coded Stop → Type 0
ComesTo a b w (Ok v) = SameNotes a b × HasValue (glimpse b) w v
ComesTo a b w (Err (S.Thrown why)) = SameNotes a b × HasError (glimpse b) w why
ComesTo a b w (Err S.Spent) = b.spent ≡ true
ComesTo a b w (Err S.GaveUp) = a.gave_up ≡ true
ComesTo a b w (Err S.Memory) = Unit {0}

-- The book is good again, has lost nothing, and no claim of it is open.
pub record Came (names : Rules Name) (y : Basis) (a b : Account) (w : Duty) (result : Result Coded Stop) : Type 0 where
  pub good : IsGood names y b
  pub reaches : Reaches (glimpse a) (glimpse b)
  pub begun_same : begun b ≡ begun a
  pub closed : (c : ℕ) → opens c b ≡ 0
  pub answer : ComesTo a b w result
