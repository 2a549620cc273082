-- By which rules in names a book is good, over a call.
use Rattle.std.specs.Prelude.{Bool}
use Rattle.seq_plan.specs.Plan.{Rules}
use Rattle.cell_book.specs.Account.{Account}
use Rattle.cell_book.specs.Glimpses.{LawIs}
use Rattle.seq_meaning.specs.Names.{Name}
use Rattle.seq_lawful.specs.Renaming.{NamesRename}
use Rattle.lawful_works.specs.Basis.{Basis, IsGood}

-- by whatever rules the book was good, by the same it is good afterwards
abbrev pub StaysGood : Bool → (Account → Type 0) → (Account → Type 0) → Bool → (Account → Type 0) → (Account → Type 0) → Basis → Type 0
StaysGood alone law noted alone2 law2 noted2 y = (names : Rules Name) → NamesRename y.rules names y.program y.limit → LawIs alone law noted (IsGood names y) → LawIs alone2 law2 noted2 (IsGood names y)
