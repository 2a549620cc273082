use Rattle.std.proofs.Common.{ℕ, ◌-◌, ◌≤◌, length}
use Rattle.xf_stages.specs.Flowing.{CompletesFrom}
use Rattle.xf_stages.proofs.completing.find_group.Given as goal

abbrev pub invariant-loop-here : goal.invariant-loop-here
invariant-loop-here l = record { behind : l.from ≤ l.here; passed : CompletesFrom l.flow l.from l.here }

abbrev pub decreases-loop-here : goal.decreases-loop-here
decreases-loop-here l = length l.flow.stages.items - l.here
