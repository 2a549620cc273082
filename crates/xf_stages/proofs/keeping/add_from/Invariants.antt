use Rattle.std.proofs.Common.{◌-◌, length, take}
use Rattle.seq_values.specs.Plain.{plains}
use Rattle.xf_stages.specs.States.{Added}
use Rattle.xf_stages.proofs.keeping.add_from.Given as goal

abbrev pub invariant-loop-here : goal.invariant-loop-here
invariant-loop-here l = record { added : Added (take l.here l.stages) (plains l.fn.all.items.items) (plains l.all.items.items) }

abbrev pub decreases-loop-here : goal.decreases-loop-here
decreases-loop-here l = length l.stages - l.here
