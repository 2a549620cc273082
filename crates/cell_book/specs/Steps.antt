-- One step on a book: what each call does to the whole book, and what it answers.
use Rattle.std.specs.Prelude.{◌≡◌, ◌≢◌, ℕ, zero, suc, ◌+◌, ◌<◌, ◌≤◌, ◌++◌, Bool, true, false, cond, List, [], ◌∷◌, length, slice_get, slice_set, Option, Some, None, Result, MatchResult, IfOk, unwrap_or, option_map}
use Rattle.seq_base.specs.declared.thrown.Thrown.{Thrown}
use Rattle.seq_vector.specs.declared.share.NoMemory.{NoMemory}
use Rattle.seq_values.specs.declared.value.Value.{Value}
use Rattle.seq_values.specs.declared.value.Value.TheVariants.{Nil}
use Rattle.seq_values.specs.declared.term.Term.{Term}
use Rattle.seq_values.specs.declared.words.Kind.{Kind}
use Rattle.seq_values.specs.declared.words.Kind.TheVariants.{Lazy, Future}
use Rattle.cell_book.specs.declared.answers.Look.{Look}
use Rattle.cell_book.specs.declared.answers.Look.TheVariants as L
use Rattle.cell_book.specs.declared.answers.MakeRefusal.{MakeRefusal}
use Rattle.cell_book.specs.declared.answers.MakeRefusal.TheVariants as M
use Rattle.cell_book.specs.declared.answers.ClaimRefusal.{ClaimRefusal}
use Rattle.cell_book.specs.declared.answers.ClaimRefusal.TheVariants as C
use Rattle.cell_book.specs.declared.cell.State.{State}
use Rattle.cell_book.specs.declared.cell.State.TheVariants as S
use Rattle.cell_book.specs.declared.cell.ClaimEnd.{ClaimEnd}
use Rattle.cell_book.specs.declared.cell.ClaimEnd.TheVariants as E
use Rattle.cell_book.specs.declared.cell.Attempt.{Attempt}
use Rattle.cell_book.specs.declared.cell.Cell.{Cell}
use Rattle.cell_book.specs.declared.cell.Form.{Form}
use Rattle.cell_book.specs.declared.work.Place.{Place}
use Rattle.cell_book.specs.declared.work.Place.TheVariants as P
use Rattle.cell_book.specs.Account.{Account, Duty, cell_at, opened, closed, made_by, IsFresh}

-- the list with another item under a number
abbrev pub renumbered : {X : Type 0} → List X → ℕ → X → List X
renumbered xs zero x = xs
renumbered xs (suc n) x = slice_set xs n x

abbrev pub with_cell : Account → ℕ → Cell → Account
with_cell a id p = record a { cells = renumbered a.cells id p }

abbrev pub with_form : Account → ℕ → Form → Account
with_form a k f = record a { forms = slice_set a.forms k f }

-- the values of the forms begun, in order, with nil for one that gave none
abbrev pub values_in : List Form → List Value
values_in [] = []
values_in (f ∷ fs) = unwrap_or f.value Nil ∷ values_in fs

-- a form as it is begun
abbrev pub begun_form : ℕ → ℕ → Form
begun_form number claim = record { number = number; attempt = opened claim None; value = None }

abbrev pub BeginAnswer : Type 0
BeginAnswer = Result Duty NoMemory

-- A claim with a number of its own is opened on the form. Its work has the values of the forms begun before. Where there is no memory the book is unchanged.
abbrev pub Begins : Account → ℕ → BeginAnswer → Account → Type 0
Begins a number answer b = MatchResult answer
    (λ w. (w.place ≡ P.Form number (length a.forms)) × (w.outcomes ≡ values_in a.forms) × IsFresh a w.claim × (b ≡ record a { forms = a.forms ++ begun_form number w.claim ∷ [] }))
    (λ _. b ≡ a)

-- the empty cell that a work makes; it keeps the values of the forms before that the work has
abbrev pub fresh_cell : Duty → Term → Kind → ℕ → Cell
fresh_cell by term kind ordinal = record { term = term; kind = kind; maker = by.claim; ordinal = ordinal; outcomes = by.outcomes; state = S.Empty; attempts = [] }

-- the cell that a work makes as its next part
abbrev pub new_cell : Account → Duty → Term → Kind → Cell
new_cell a by term kind = fresh_cell by term kind (length (made_by by.claim a) + 1)

abbrev pub MakeAnswer : Type 0
MakeAnswer = Result ℕ MakeRefusal

-- Below the limit the cell gets the next number. At the limit the make is refused, and the book notes it. A refusal hands the term back.
abbrev pub Makes : Account → Duty → Term → Kind → MakeAnswer → Account → Type 0
Makes a by term kind answer b = MatchResult answer
    (λ id. (id ≡ length a.cells + 1) × (length a.cells < a.limit) × (b ≡ record a { cells = a.cells ++ new_cell a by term kind ∷ [] }))
    (λ r. Refused r)
  where
    Refused : MakeRefusal → Type 0
    Refused (M.Spent back) = (back ≡ term) × (length a.cells ≡ a.limit) × (b ≡ record a { spent = true })
    Refused (M.Memory back) = (back ≡ term) × (b ≡ a)

abbrev pub shown_state : State → Look
shown_state S.Empty = L.Empty
shown_state (S.Forcing claim) = L.Forcing claim
shown_state (S.Done v) = L.Done v
shown_state (S.Failed why) = L.Failed why

-- what a look at a cell shows
abbrev pub shown : Option Cell → Look
shown None = L.Unknown
shown (Some p) = shown_state p.state

abbrev pub term_at : Cell → Term
term_at p = p.term

abbrev pub LookAnswer : Type 0
LookAnswer = Result Look NoMemory

abbrev pub Looks : Account → ℕ → LookAnswer → Account → Type 0
Looks a id answer b = (b ≡ a) × IfOk answer (λ l. l ≡ shown (cell_at a id))

-- No claim is opened any more: a work was given up, and no make was refused for the limit. A part that the lost attempt made would be made a second time.
abbrev pub is_barred : Account → Bool
is_barred a = cond a.spent false a.gave_up

-- the claim of a work that asks, if one does
abbrev pub asker_of : Option Duty → Option ℕ
asker_of None = None
asker_of (Some w) = Some w.claim

-- the cell with a new claim open on it
abbrev pub claimed : Cell → ℕ → Option ℕ → Cell
claimed p claim asker = record p { state = S.Forcing claim; attempts = p.attempts ++ opened claim asker ∷ [] }

abbrev pub ClaimAnswer : Type 0
ClaimAnswer = Result Duty ClaimRefusal

-- A claim with a number of its own is opened on the empty cell. Its work has the cell's term, and the outcomes that the cell keeps.
abbrev pub Opens : Account → ℕ → Option ℕ → Duty → Account → Type 0
Opens a id asker w b = (p : Cell) × (cell_at a id ≡ Some p) × (p.state ≡ S.Empty) × IsFresh a w.claim × (w.place ≡ P.Part id p.kind p.term) × (w.outcomes ≡ p.outcomes) × (b ≡ with_cell a id (claimed p w.claim asker))

-- After a refusal the book is unchanged.
abbrev pub Claims : Account → ℕ → Option ℕ → ClaimAnswer → Account → Type 0
Claims a id asker answer b = MatchResult answer
    (λ w. (is_barred a ≡ false) × Opens a id asker w b)
    (λ r. (b ≡ a) × Refused r)
  where
    Refused : ClaimRefusal → Type 0
    Refused (C.Seen l) = (l ≡ shown (cell_at a id)) × (l ≢ L.Empty)
    Refused C.GaveUp = (shown (cell_at a id) ≡ L.Empty) × (is_barred a ≡ true)
    Refused C.Memory = Unit {0}

-- the cell is forced by the claim, and its last attempt is that of the claim
pub record HasOpen (p : Cell) (claim : ℕ) (asker : Option ℕ) (past : List Attempt) : Type 0 where
  pub state : p.state ≡ S.Forcing claim
  pub attempts : p.attempts ≡ past ++ opened claim asker ∷ []

-- the cell after its open claim ended
abbrev pub after_claim : Cell → ℕ → Option ℕ → List Attempt → ClaimEnd → State → Cell
after_claim p claim asker past end state = record p { state = state; attempts = past ++ closed claim asker end ∷ [] }

abbrev pub KindAnswer : Type 0
KindAnswer = Option Kind

abbrev pub kind_at : Cell → Kind
kind_at p = p.kind

abbrev pub Kinds : Account → ℕ → KindAnswer → Account → Type 0
Kinds a id answer b = (b ≡ a) × (answer ≡ option_map kind_at (cell_at a id))

abbrev pub FutureAnswer : Type 0
FutureAnswer = Option ℕ

-- the cell with this number is an empty future
abbrev pub IsOpenFuture : Account → ℕ → Type 0
IsOpenFuture a id = (p : Cell) × (cell_at a id ≡ Some p) × (p.kind ≡ Future) × (p.state ≡ S.Empty)

-- The answer is the empty future with the lowest number, and none where no future is empty.
abbrev pub FindsFuture : Account → FutureAnswer → Account → Type 0
FindsFuture a None b = (b ≡ a) × ((id : ℕ) → ¬ IsOpenFuture a id)
FindsFuture a (Some id) b = (b ≡ a) × IsOpenFuture a id × ((j : ℕ) → j < id → ¬ IsOpenFuture a j)

-- The claim on the cell ends, and leaves the cell in a state.
abbrev pub EndsPart : Account → ℕ → ℕ → ClaimEnd → (Kind → State) → Account → Type 0
EndsPart a id claim end state b = (p : Cell) × (asker : Option ℕ) × (past : List Attempt) × (cell_at a id ≡ Some p) × HasOpen p claim asker past × (b ≡ with_cell a id (after_claim p claim asker past end (state p.kind)))

-- The claim on the form ends.
abbrev pub EndsForm : Account → ℕ → ℕ → ℕ → ClaimEnd → Option Value → Account → Type 0
EndsForm a k number claim end value b = (slice_get a.forms k ≡ Some (begun_form number claim)) × (b ≡ with_form a k (record { number = number; attempt = closed claim None end; value = value }))

-- The work's claim ends: on a part it leaves a state, on a form a value or none.
abbrev pub Ends : Account → Duty → ClaimEnd → (Kind → State) → Option Value → Account → Type 0
Ends a w end state value b = At w.place
  where
    At : Place → Type 0
    At (P.Form number k) = EndsForm a k number w.claim end value b
    At (P.Part id kind term) = EndsPart a id w.claim end state b

abbrev pub Finishes : Account → Duty → Value → Account → Type 0
Finishes a w v b = Ends a w E.Value (λ _. S.Done v) (Some v) b

-- after an error a lazy part is empty again, and a future has failed
abbrev pub failed_state : Thrown → Kind → State
failed_state why Lazy = S.Empty
failed_state why Future = S.Failed why

abbrev pub Fails : Account → Duty → Thrown → Account → Type 0
Fails a w why b = Ends a w (E.Error why) (failed_state why) None b

-- The part is empty again, and the book notes that a work was given up.
abbrev pub GivesUp : Account → Duty → Account → Type 0
GivesUp a w b = (m : Account) × Ends a w E.GivenUp (λ _. S.Empty) None m × (b ≡ record m { gave_up = true })

-- The claim of the work is open, as far as these cells (by their numbers) and forms (by their places) tell: it forces the part, or the form has not ended.
abbrev pub IsOpenAt : (ℕ → Option Cell) → (ℕ → Option Form) → Duty → Type 0
IsOpenAt cells forms w = At w.place
  where
    At : Place → Type 0
    At (P.Form number k) = forms k ≡ Some (begun_form number w.claim)
    At (P.Part id kind term) = (p : Cell) × (asker : Option ℕ) × (past : List Attempt) × (cells id ≡ Some p) × HasOpen p w.claim asker past

abbrev pub IsOpenIn : Account → Duty → Type 0
IsOpenIn a w = IsOpenAt (λ id. cell_at a id) (λ k. slice_get a.forms k) w

abbrev pub IsOpenAsker : Account → Option Duty → Type 0
IsOpenAsker a None = Unit {0}
IsOpenAsker a (Some w) = IsOpenIn a w

-- the counts of makes after another make by a work on this place
abbrev pub cell_counts : Place → List ℕ → ℕ → List ℕ
cell_counts (P.Form number k) counts n = counts
cell_counts (P.Part id kind term) counts n = renumbered counts id n

abbrev pub form_counts : Place → List ℕ → ℕ → List ℕ
form_counts (P.Form number k) counts n = slice_set counts k n
form_counts (P.Part id kind term) counts n = counts

-- there is a count for the place
abbrev pub HasCount : Place → List ℕ → List ℕ → Type 0
HasCount (P.Form number k) cells forms = k < length forms
HasCount (P.Part id kind term) cells forms = id ≤ length cells
