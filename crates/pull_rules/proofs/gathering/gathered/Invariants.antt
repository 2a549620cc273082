use Rattle.std.proofs.Common.{ℕ, List}
use Rattle.seq_values.specs.Model as M
use Rattle.seq_values.specs.Plain.{plains}
use Rattle.seq_plan.specs.Stages.{gathers}
use Rattle.xf_stages.specs.Left.{Course}
use Rattle.pull_rules.specs.Reducing.{Flows}
use Rattle.pull_rules.proofs.Gatherings.{Advances, outputs_ahead}
use Rattle.pull_rules.proofs.gathering.gathered.Given as goal

abbrev pub invariant-loop-next : goal.invariant-loop-next
invariant-loop-next l = record { leads : (stages : List (M.Value ℕ)) (course : Course) → Flows stages course l.fn.flow → Advances stages (λ k. course (gathers (plains l.fn.outputs.items.items)) k) l.here.flow l.here.outputs }

abbrev pub decreases-loop-next : goal.decreases-loop-next
decreases-loop-next l = outputs_ahead l.here.flow
