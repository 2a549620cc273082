use Rattle.std.proofs.Common.{◌-◌, length}
use Rattle.cell_book.specs.Kept.{IsPastFutures}
use Rattle.cell_book.proofs.book.future_from.Given as goal

abbrev pub invariant-loop-at : goal.invariant-loop-at
invariant-loop-at l = IsPastFutures l.cells.items l.at

abbrev pub decreases-loop-at : goal.decreases-loop-at
decreases-loop-at l = length l.cells.items - l.at
