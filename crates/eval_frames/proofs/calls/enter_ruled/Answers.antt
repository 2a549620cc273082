use Rattle.std.proofs.Common.{refl, sym, ap, ◌∙◌, arith}
use Rattle.eval_frames.specs.Frames.{ground, beneath}
use Rattle.seq_plan.specs.Plan.{then}
use Rattle.eval_frames.proofs.Callings.{ruled_plan}
use Rattle.eval_frames.proofs.calls.enter_ruled.Goals as goal

pub returns : goal.returns
returns g c =
    let by = ground g.R.Rule.running g.R.Rules.table c.args.code.now in
    record { left = refl; plan = ap (λ p. then p (beneath by c.args.rest)) c.begin_call-state.ensures.left ∙ sym (ruled_plan by c.args.function c.args.args.items (beneath by c.args.rest) c.requires.ruled); light = omega arith }
