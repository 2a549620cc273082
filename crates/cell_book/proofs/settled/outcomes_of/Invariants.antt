use Rattle.std.proofs.Common.{◌≡◌, length, take}
use Rattle.cell_book.specs.Steps.{values_in}
use Rattle.cell_book.proofs.settled.outcomes_of.Given as goal

abbrev pub invariant-loop-at : goal.invariant-loop-at
invariant-loop-at l = record { long : length l.outcomes ≡ l.at; first : l.outcomes ≡ take l.at (values_in l.forms) }
