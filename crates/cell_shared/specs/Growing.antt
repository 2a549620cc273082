-- How a shared book grows, what a pass knows of it, and what the rule asks of a step on it.
use Rattle.std.specs.Prelude.{◌≡◌, ℕ, ◌+◌, ◌<◌, ◌≤◌, ◌==◌, Bool, true, false, List, [], length, count_by, Some}
use Rattle.cell_book.specs.Account.{Account, opens, begun, IsSound}
use Rattle.cell_book.specs.Steps.{IsOpenFuture}
use Rattle.cell_book.specs.Glimpses.{glimpse, Reaches, IsForced, Onward}

-- a book as it is made
abbrev pub fresh : ℕ → Account
fresh limit = record { limit = limit; cells = []; forms = []; spent = false; gave_up = false }

-- how often a claim stands in a list
abbrev pub times : ℕ → List ℕ → ℕ
times c claims = count_by (λ (d : ℕ). d == c) claims

abbrev pub counted : List ℕ → ℕ → ℕ
counted claims c = times c claims

-- no claim is open, and no future is empty
pub record IsQuiet (a : Account) : Type 0 where
  pub idle : (c : ℕ) → opens c a ≡ 0
  pub futures : (id : ℕ) → ¬ IsOpenFuture a id

-- The whole book is known to be this one, until a form is begun: one who may begin forms saw it at rest.
abbrev pub Noted : Bool → Account → Account → Type 0
Noted leads seen b = (leads ≡ true) × IsQuiet seen × (b ≡ seen)

-- Nothing is lost. A quiet book stays as it is until a form is begun.
pub record Grows (a b : Account) : Type 0 where
  pub reaches : Reaches (glimpse a) (glimpse b)
  pub forms : length (begun a) ≤ length (begun b)
  pub quiet : IsQuiet a → length (begun b) ≡ length (begun a) → b ≡ a

-- The asker of a claim that one has open is one's own too, while it is open.
abbrev pub Asks : (ℕ → ℕ) → Account → Type 0
Asks mine b = (c d id : ℕ) → 0 < mine c → IsForced (glimpse b) id c (Some d) → 0 < opens d b → 0 < mine d

-- What one knows of the book at home who has seen a book and has these claims open (`mine` tells how often each).
pub record Knows (leads : Bool) (keeps : Account → Type 0) (seen : Account) (mine : ℕ → ℕ) (b : Account) : Type 0 where
  pub law : keeps b
  pub sound : IsSound b
  pub grown : Grows seen b
  pub opened : (c : ℕ) → mine c ≤ opens c b
  pub own : (c : ℕ) → 0 < mine c → Onward c (glimpse seen) (glimpse b)
  pub begun : leads ≡ true → begun b ≡ begun seen
  pub asks : Asks mine b

-- A step from a to b by one who has the claims `mine` open, and afterwards `mine2`: the open claims of the others stay, with all that they made and asked for.
pub record Turns (leads : Bool) (mine : ℕ → ℕ) (a b : Account) (mine2 : ℕ → ℕ) : Type 0 where
  pub sound : IsSound b
  pub grows : Grows a b
  pub counts : (c : ℕ) → mine2 c + opens c a ≡ mine c + opens c b
  pub others : (c : ℕ) → mine c ≡ 0 → 0 < opens c a → Onward c (glimpse a) (glimpse b)
  pub begun : leads ≡ false → begun b ≡ begun a
  pub asks : Asks mine2 b
  pub askers : (c d id : ℕ) → IsForced (glimpse a) id c (Some d) → 0 < opens d b → 0 < opens d a
