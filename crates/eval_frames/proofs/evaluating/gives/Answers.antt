use Rattle.std.proofs.Common.{refl, arith}
use Rattle.eval_frames.specs.Frames.{ground}
use Rattle.eval_frames.proofs.Going.{comes_on}
use Rattle.eval_frames.proofs.evaluating.gives.Goals as goal

pub returns : goal.returns
returns g c =
    let by = ground g.R.Rule.running g.R.Rules.table c.args.code.now in
    comes_on by refl (omega arith) c.tells.ensures
