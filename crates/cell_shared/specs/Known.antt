-- What contracts see of a pass and of a shared book.
use Rattle.std.specs.Prelude.{ℕ, Bool, List, [], ◌∷◌, ◌==◌, if◌then◌else◌}
use Rattle.atomic_table.specs.Seated.{TableId}
use Rattle.cell_book.specs.Account.{Account}
use Rattle.cell_shared.specs.declared.desk.Change.{Change}
use Rattle.cell_shared.specs.declared.desk.Change.TheVariants.{Keeps, Opens, Closes}

-- a pass: the table that it is of, whether it may begin forms, the book that it has seen, and the claims that it has open
pub record Known : Type 0 where
  pub table : TableId
  pub leads : Bool
  pub seen : Account
  pub claims : List ℕ

abbrev pub known : TableId → Bool → Account → List ℕ → Known
known table leads seen claims = record { table = table; leads = leads; seen = seen; claims = claims }

-- a shared book: its table, and the law that it keeps
pub record Ruled (L : Type 0) : Type 0 where
  pub table : TableId
  pub law : L

-- one that is in the list leaves it
abbrev pub without : ℕ → List ℕ → List ℕ
without c [] = []
without c (d ∷ ds) = if d == c then ds else d ∷ without c ds

-- the open claims after a change
abbrev pub after : Change → List ℕ → List ℕ
after Keeps mine = mine
after (Opens c) mine = c ∷ mine
after (Closes c) mine = without c mine
