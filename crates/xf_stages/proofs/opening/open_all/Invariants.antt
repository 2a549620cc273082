use Rattle.xf_stages.specs.Parts.{work_weight}
use Rattle.xf_stages.proofs.OpenTurns.{Reaches}
use Rattle.xf_stages.proofs.opening.open_all.Given as goal

abbrev pub invariant-loop-rest : goal.invariant-loop-rest
invariant-loop-rest l = record { reaches : Reaches l.fn.work l.here }

abbrev pub decreases-loop-rest : goal.decreases-loop-rest
decreases-loop-rest l = work_weight l.here
