use Rattle.std.proofs.Common.{◌≡◌, ◌-◌, drop, length}
use Rattle.seq_values.specs.Depth.{depth_of_all}
use Rattle.seq_values.proofs.depth.deepest_from_last.Given as goal

abbrev pub invariant-loop-done : goal.invariant-loop-done
invariant-loop-done l = l.found ≡ depth_of_all (drop (length l.items - l.done) l.items)
