use Rattle.std.proofs.Common.{refl, arith}
use Rattle.eval_frames.specs.Frames.{ground, beneath}
use Rattle.seq_values.specs.Plain.{plain, plains}
use Rattle.seq_plan.specs.Nodes.{is_truthy}
use Rattle.eval_frames.proofs.Branches.{branch_plan, branch_weight}
use Rattle.eval_frames.proofs.telling.if_told.Goals as goal

pub returns : goal.returns
returns g c =
    let by = ground g.R.Rule.running g.R.Rules.table c.args.code.now in
    let w = branch_weight c.args.code.now c.args.yes c.args.no (is_truthy (plain c.args.value.value)) _ c.branch-expr.ensures in
    record { left = refl; plan = branch_plan c.args.code.now c.args.yes c.args.no (is_truthy (plain c.args.value.value)) _ c.branch-expr.ensures (plains c.args.locals.items) (beneath by c.args.rest); light = omega (arith, w) }
