use Rattle.std.proofs.Common.{w64}
use Rattle.std.proofs.lemmas.Int.{to_z-of_z}
use Rattle.seq_plan.specs.Plan.{visit}
use Rattle.ahead_rules.specs.Left.{left_step}
use Rattle.ahead_rules.specs.declared.state.AtStep.TheVariants as T
use Rattle.ahead_rules.proofs.Moves.{ahead_visit, handed}
use Rattle.ahead_rules.proofs.taking.ahead_goes.Goals as goal

pub returns : goal.returns
returns c = ahead_visit c.args.count c.args.left c.args.place c.visits.result (handed (λ n. visit (left_step (T.Ahead n c.args.place))) c.args.count _ c.visits.result (to_z-of_z w64 c.args.count c.ranges.count) c.visits.ensures)
