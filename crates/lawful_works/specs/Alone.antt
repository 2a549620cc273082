-- What a call leaves of a book that nobody shares: what grew, and what was noted.
use Rattle.std.specs.Prelude.{◌≡◌, ℕ, true, ◌++◌, ◌∷◌, [], Bool, Ok, Err}
use Rattle.cell_book.specs.declared.answers.MakeRefusal.TheVariants as M
use Rattle.cell_book.specs.declared.answers.ClaimRefusal.TheVariants as C
use Rattle.cell_book.specs.Account.{Account, begun}
use Rattle.cell_book.specs.Steps.{BeginAnswer, MakeAnswer, ClaimAnswer}
use Rattle.cell_book.specs.Glimpses.{glimpse, Reaches}
use Rattle.lawful_works.specs.Evaluated.{SameNotes}

-- Where one is alone over the book a, one is alone over a book b afterwards, and P holds of the two.
abbrev pub Becomes : Bool → (Account → Type 0) → (Account → Type 0) → (Account → Account → Type 0) → Type 0
Becomes alone noted noted2 P = alone ≡ true → (a : Account) → noted a → (b : Account) × noted2 b × P a b

-- nothing was lost, and no form was begun
pub record Grows (a b : Account) : Type 0 where
  pub reaches : Reaches (glimpse a) (glimpse b)
  pub begun_same : begun b ≡ begun a

-- and nothing was noted
abbrev pub Quiets : Account → Account → Type 0
Quiets a b = Grows a b × SameNotes a b

-- after a make: the book notes that the limit was reached, and else nothing
abbrev pub MakeNotes : MakeAnswer → Account → Account → Type 0
MakeNotes (Ok id) a b = SameNotes a b
MakeNotes (Err (M.Spent back)) a b = b.spent ≡ true
MakeNotes (Err (M.Memory back)) a b = SameNotes a b

-- after a claim: a refusal for a give-up has its note in the book before
abbrev pub ClaimNotes : ClaimAnswer → Account → Account → Type 0
ClaimNotes (Ok w) a b = SameNotes a b
ClaimNotes (Err (C.Seen look)) a b = SameNotes a b
ClaimNotes (Err C.GaveUp) a b = SameNotes a b × (a.gave_up ≡ true)
ClaimNotes (Err C.Memory) a b = SameNotes a b

-- a part was made, or was not
abbrev pub MakesQuietly : MakeAnswer → Account → Account → Type 0
MakesQuietly answer a b = Grows a b × MakeNotes answer a b

-- a claim was opened, or was not
abbrev pub ClaimsQuietly : ClaimAnswer → Account → Account → Type 0
ClaimsQuietly answer a b = Grows a b × ClaimNotes answer a b

-- the forms begun after a form was begun, or was not
abbrev pub BegunThen : ℕ → BeginAnswer → Account → Account → Type 0
BegunThen number (Ok w) a b = begun b ≡ begun a ++ number ∷ []
BegunThen number (Err e) a b = begun b ≡ begun a

-- a form was begun, or was not; nothing was lost and nothing was noted
pub record BeginsQuietly (number : ℕ) (answer : BeginAnswer) (a b : Account) : Type 0 where
  pub reaches : Reaches (glimpse a) (glimpse b)
  pub begun_then : BegunThen number answer a b
  pub notes : SameNotes a b
