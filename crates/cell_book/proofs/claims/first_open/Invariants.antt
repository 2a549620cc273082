use Rattle.std.proofs.Common.{◌≤◌, ◌-◌, length}
use Rattle.cell_book.specs.Registers.{EndedBefore}
use Rattle.cell_book.proofs.claims.first_open.Given as goal

abbrev pub invariant-loop-at : goal.invariant-loop-at
invariant-loop-at l = record { within : l.at ≤ length l.entries; before : EndedBefore l.entries l.at }

abbrev pub decreases-loop-at : goal.decreases-loop-at
decreases-loop-at l = length l.entries - l.at
