use Rattle.std.proofs.Common.{refl, ap, arith}
use Rattle.eval_frames.specs.Frames.{ground, beneath}
use Rattle.seq_plan.specs.Plan.{then}
use Rattle.eval_frames.proofs.telling.print_told.Goals as goal

pub returns : goal.returns
returns g c =
    let by = ground g.R.Rule.running g.R.Rules.table c.args.code.now in
    record { left = refl; plan = ap (λ p. then p (beneath by c.args.rest)) c.begin_print-state.ensures.left; light = omega arith }
