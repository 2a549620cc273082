-- What contracts see of a book of cells and of a work.
use Rattle.std.specs.Prelude.{◌≡◌, ◌≢◌, ℕ, zero, suc, ◌+◌, ◌≤◌, ◌==◌, Bool, true, false, cond, List, [], ◌∷◌, ◌++◌, count_by, slice_get, Option, Some, None}
use Rattle.seq_values.specs.declared.value.Value.{Value}
use Rattle.cell_book.specs.declared.cell.State.{State}
use Rattle.cell_book.specs.declared.cell.State.TheVariants.{Forcing}
use Rattle.cell_book.specs.declared.cell.ClaimEnd.{ClaimEnd}
use Rattle.cell_book.specs.declared.cell.ClaimEnd.TheVariants.{Open}
use Rattle.cell_book.specs.declared.cell.Attempt.{Attempt}
use Rattle.cell_book.specs.declared.cell.Cell.{Cell}
use Rattle.cell_book.specs.declared.cell.Form.{Form}
use Rattle.cell_book.specs.declared.work.Place.{Place}

-- A book: how many cells it may have, its cells in the order of their numbers, the forms begun in that order, and its two notes.
pub record Account : Type 0 where
  pub limit : ℕ
  pub cells : List Cell
  pub forms : List Form
  -- a make was refused because the limit was reached
  pub spent : Bool
  -- a work was given up
  pub gave_up : Bool

-- a book without cells and forms
abbrev pub new_book : ℕ → Account
new_book limit = record { limit = limit; cells = []; forms = []; spent = false; gave_up = false }

-- What contracts see of a work: the form or the part that it is on, its claim, and its outcomes, the values of the forms before. Of an outcome that of a `def` form alone is meant: what any other form gave (the text of a `prn`, or nil) stands in its place, and no body names it. So outcomes are compared by `referred` of `seq_meaning`, which reads nil there.
pub record Duty : Type 0 where
  pub place : Place
  pub claim : ℕ
  pub outcomes : List Value

-- the item with a number; the first has the number 1
abbrev pub numbered : {X : Type 0} → List X → ℕ → Option X
numbered xs zero = None
numbered xs (suc n) = slice_get xs n

abbrev pub cell_at : Account → ℕ → Option Cell
cell_at a id = numbered a.cells id

-- the record of a claim that is open
abbrev pub opened : ℕ → Option ℕ → Attempt
opened claim asker = record { claim = claim; asker = asker; end = Open }

-- the record of a claim that ended
abbrev pub closed : ℕ → Option ℕ → ClaimEnd → Attempt
closed claim asker end = record { claim = claim; asker = asker; end = end }

abbrev pub is_open : ClaimEnd → Bool
is_open Open = true
is_open _ = false

-- the claim forces a cell in this state
abbrev pub forces : ℕ → State → Bool
forces claim (Forcing c) = c == claim
forces claim _ = false

-- it is the record of this claim, and the claim is open
abbrev pub runs : ℕ → Attempt → Bool
runs claim x = cond (is_open x.end) (x.claim == claim) false

-- how often the claim is open in the book: once or not at all
abbrev pub opens : ℕ → Account → ℕ
opens claim a = count_by (λ (p : Cell). forces claim p.state) a.cells + count_by (λ (f : Form). runs claim f.attempt) a.forms

-- the numbers of the cells that the claim made, in order, where the first of the list has the number n
abbrev pub made_from : ℕ → List Cell → ℕ → List ℕ
made_from claim [] n = []
made_from claim (p ∷ ps) n = cond (p.maker == claim) (n ∷ made_from claim ps (suc n)) (made_from claim ps (suc n))

abbrev pub made_by : ℕ → Account → List ℕ
made_by claim a = made_from claim a.cells 1

abbrev pub is_asker : ℕ → Option ℕ → Bool
is_asker claim None = false
is_asker claim (Some c) = c == claim

-- the attempts in the list that the claim asked for, ended or open
abbrev pub asked_by : ℕ → List Attempt → List Attempt
asked_by claim [] = []
asked_by claim (x ∷ xs) = cond (is_asker claim x.asker) (x ∷ asked_by claim xs) (asked_by claim xs)

abbrev pub asked_at : ℕ → Option Cell → List Attempt
asked_at claim None = []
asked_at claim (Some p) = asked_by claim p.attempts

-- the numbers of the forms begun, in order
abbrev pub begun_in : List Form → List ℕ
begun_in [] = []
begun_in (f ∷ fs) = f.number ∷ begun_in fs

abbrev pub begun : Account → List ℕ
begun a = begun_in a.forms

-- the cell doesn't name the claim
pub record IsUnnamed (claim : ℕ) (p : Cell) : Type 0 where
  pub maker : p.maker ≢ claim
  pub state : p.state ≢ Forcing claim
  pub attempts : (i : ℕ) (x : Attempt) → slice_get p.attempts i ≡ Some x → (x.claim ≢ claim) × (x.asker ≢ Some claim)

-- no claim of the book has, or had, this number
pub record IsFresh (a : Account) (claim : ℕ) : Type 0 where
  pub cells : (i : ℕ) (p : Cell) → slice_get a.cells i ≡ Some p → IsUnnamed claim p
  pub forms : (k : ℕ) (f : Form) → slice_get a.forms k ≡ Some f → (f.attempt.claim ≢ claim) × (f.attempt.asker ≢ Some claim)

-- each claim is open at most once, and the cells are within the limit
pub record IsSound (a : Account) : Type 0 where
  pub once : (claim : ℕ) → opens claim a ≤ 1
  pub within : Rattle.std.specs.Prelude.length a.cells ≤ a.limit
