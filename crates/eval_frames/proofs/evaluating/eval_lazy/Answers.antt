use Rattle.std.proofs.Common.{refl, arith}
use Rattle.eval_frames.specs.Frames.{ground}
use Rattle.eval_frames.specs.Frames.{script_in}
use Rattle.eval_frames.proofs.Moving.{stays}
use Rattle.eval_frames.proofs.evaluating.eval_lazy.Goals as goal

pub returns : goal.returns
returns g c =
    let by = ground g.R.Rule.running g.R.Rules.table c.args.code.now in
    record { goes = stays (script_in by) _ _; took = refl; light = omega arith }
