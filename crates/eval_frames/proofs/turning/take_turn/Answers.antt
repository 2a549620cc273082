use Rattle.eval_frames.specs.Frames.{ground, beneath}
use Rattle.eval_frames.proofs.Going.{comes_from}
use Rattle.eval_frames.proofs.Turnings.{rule_moves}
use Rattle.eval_frames.proofs.turning.take_turn.Goals as goal

pub returns : goal.returns
returns g c =
    let by = ground g.R.Rule.running g.R.Rules.table c.args.code.now in
    comes_from by (rule_moves by (λ l xs o. g.met.R.Rules.loops c.args.code.now.processors l xs o) _ _ _ (beneath by c.args.rest) c.in_ok-next.ensures.goes) c.in_ok-advance.ensures
