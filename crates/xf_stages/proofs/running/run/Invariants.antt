use Rattle.std.proofs.Common.{ℕ, List}
use Rattle.seq_values.specs.Model as M
use Rattle.xf_stages.specs.Flowing.{Leads, weight}
use Rattle.xf_stages.specs.Left.{Course}
use Rattle.xf_stages.proofs.running.run.Given as goal

abbrev pub invariant-loop-here : goal.invariant-loop-here
invariant-loop-here l = record { leads : (stages : List (M.Value ℕ)) (course : Course) → Leads stages course l.fn.passing → Leads stages course l.here }

abbrev pub decreases-loop-here : goal.decreases-loop-here
decreases-loop-here l = weight l.here
