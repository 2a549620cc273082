-- What a book keeps of its claims, by their numbers: where each was opened, and whether it has ended.
use Rattle.std.specs.Prelude.{◌≡◌, ℕ, zero, suc, ◌<◌, ◌≤◌, Bool, true, false, cond, List, [], ◌∷◌, length, slice_get, Option, Some, None}
use Rattle.cell_book.specs.declared.cell.Attempt.{Attempt}
use Rattle.cell_book.specs.declared.cell.Cell.{Cell}
use Rattle.cell_book.specs.declared.cell.Form.{Form}
use Rattle.cell_book.specs.declared.claims.Spot.{Spot}
use Rattle.cell_book.specs.declared.claims.Spot.TheVariants as At
use Rattle.cell_book.specs.declared.claims.Entry.{Entry}
use Rattle.cell_book.specs.Account.{Account, cell_at, opens}

abbrev pub spot_of : Entry → Spot
spot_of x = x.spot

-- the list where the claim with a number has ended
abbrev pub closed_at : ℕ → List Entry → List Entry
closed_at n [] = []
closed_at zero (x ∷ xs) = record x { ended = true } ∷ xs
closed_at (suc n) (x ∷ xs) = x ∷ closed_at n xs

abbrev pub EndedBefore : List Entry → ℕ → Type 0
EndedBefore entries place = (n : ℕ) (x : Entry) → n < place → slice_get entries n ≡ Some x → x.ended ≡ true

-- no claim before this place is open, and one at it is
pub record FirstOpen (entries : List Entry) (place : ℕ) : Type 0 where
  pub within : place ≤ length entries
  pub before : EndedBefore entries place
  pub at : (x : Entry) → slice_get entries place ≡ Some x → x.ended ≡ false

-- the open claim with the lowest number
abbrev pub IsLowest : List Entry → Option ℕ → Type 0
IsLowest entries None = EndedBefore entries (length entries)
IsLowest entries (Some n) = (x : Entry) × (slice_get entries n ≡ Some x) × (x.ended ≡ false) × EndedBefore entries n

-- the claim with this number was opened here
abbrev pub WasOpened : Account → ℕ → Spot → Type 0
WasOpened a n (At.Form k) = (f : Form) × (slice_get a.forms k ≡ Some f) × (f.attempt.claim ≡ n)
WasOpened a n (At.Part id k) = (p : Cell) × (x : Attempt) × (cell_at a id ≡ Some p) × (slice_get p.attempts k ≡ Some x) × (x.claim ≡ n)

-- the entries are those of the claims of the book
pub record IsRegistered (a : Account) (entries : List Entry) : Type 0 where
  pub spots : (n : ℕ) (x : Entry) → slice_get entries n ≡ Some x → WasOpened a n x.spot
  pub often : (n : ℕ) (x : Entry) → slice_get entries n ≡ Some x → opens n a ≡ cond x.ended 0 1
