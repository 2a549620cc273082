-- What a look at the whole book finds.
use Rattle.std.specs.Prelude.{◌≡◌, ℕ, ◌<◌, true, false}
use Rattle.cell_book.specs.Account.{Account, opens}
use Rattle.cell_book.specs.Counts.{totals_of}
use Rattle.cell_book.specs.Steps.{IsOpenFuture}
use Rattle.cell_shared.specs.Growing.{IsQuiet}
use Rattle.cell_shared.specs.declared.quiet.Quiet.{Quiet}
use Rattle.cell_shared.specs.declared.quiet.Quiet.TheVariants as Q

-- no make was refused for the limit, and no work was given up
abbrev pub IsUnnoted : Account → Type 0
IsUnnoted a = (a.spent ≡ false) × (a.gave_up ≡ false)

abbrev pub IsIdle : Account → Type 0
IsIdle a = (c : ℕ) → opens c a ≡ 0

-- The first of these that holds: a make was refused for the limit, a work was given up, a claim is open (the lowest), a future is empty (the lowest), nothing of these.
abbrev pub Finds : Account → Quiet → Type 0
Finds a Q.Spent = a.spent ≡ true
Finds a Q.GaveUp = (a.spent ≡ false) × (a.gave_up ≡ true)
Finds a (Q.Claimed c) = IsUnnoted a × (0 < opens c a) × ((d : ℕ) → d < c → opens d a ≡ 0)
Finds a (Q.OpenFuture id) = IsUnnoted a × IsIdle a × IsOpenFuture a id × ((j : ℕ) → j < id → ¬ IsOpenFuture a j)
Finds a (Q.Totals t) = IsUnnoted a × IsQuiet a × (t ≡ totals_of a.cells)
