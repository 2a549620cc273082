use Rattle.std.proofs.Common.{ap, arith}
use Rattle.eval_frames.specs.Frames.{ground, beneath}
use Rattle.eval_frames.proofs.Going.{comes_same}
use Rattle.eval_frames.proofs.evaluating.eval_local.Goals as goal

pub returns : goal.returns
returns g c =
    let by = ground g.R.Rule.running g.R.Rules.table c.args.code.now in
    comes_same by (ap (beneath by c.args.rest) c.in_ok-value.ensures) (omega arith) c.gives.ensures
