use Rattle.std.proofs.Common.{◌-◌, length, drop}
use Rattle.seq_values.specs.Plain.{plains}
use Rattle.xf_stages.proofs.ReduceTurns.{Begun}
use Rattle.xf_stages.proofs.reducing.stages_from.Given as goal

abbrev pub invariant-loop-here : goal.invariant-loop-here
invariant-loop-here l = record { found : Begun (plains (drop l.at l.args.items)) l.stages.items (plains (drop l.here l.args.items)) }

abbrev pub decreases-loop-here : goal.decreases-loop-here
decreases-loop-here l = length l.args.items - l.here
