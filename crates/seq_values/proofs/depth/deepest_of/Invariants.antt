use Rattle.std.proofs.Common.{◌≡◌, take}
use Rattle.seq_values.specs.Depth.{depth_of_all}
use Rattle.seq_values.proofs.depth.deepest_of.Given as goal

abbrev pub invariant-loop-at : goal.invariant-loop-at
invariant-loop-at l = l.found ≡ depth_of_all (take l.at l.items)
