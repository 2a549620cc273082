use Rattle.seq_values.specs.Depth.{depth}
use Rattle.reducer_values.proofs.Peeling.{Peeling}
use Rattle.reducer_values.proofs.layers.foldable_of.Given as goal

abbrev pub invariant-loop-outer : goal.invariant-loop-outer
invariant-loop-outer l = Peeling l.value.value l.here.value l.outer.items.items

abbrev pub decreases-loop-outer : goal.decreases-loop-outer
decreases-loop-outer l = depth l.here.value
