use Rattle.eval_frames.specs.Frames.{ground}
use Rattle.eval_frames.specs.Weights.{runner_weight}
use Rattle.eval_frames.proofs.Runs.{Gone}
use Rattle.eval_frames.proofs.running.run.Given as goal

abbrev pub invariant-loop-turn : goal.invariant-loop-turn
invariant-loop-turn g l = Gone (ground g.R.Rule.running g.R.Rules.table l.code) l.fn.runner l.runner

abbrev pub decreases-loop-turn : goal.decreases-loop-turn
decreases-loop-turn g l = runner_weight l.code l.runner
