use Rattle.eval_frames.specs.Frames.{ground}
use Rattle.seq_values.specs.Plain.{plain, plains}
use Rattle.eval_frames.proofs.Turnings.{call_above}
use Rattle.eval_frames.proofs.turning.applies.Goals as goal

pub returns : goal.returns
returns g c =
    let by = ground g.R.Rule.running g.R.Rules.table c.args.code.now in
    call_above by c.args.rest c.in_ok-rest.rest (plain c.args.function.value) (plains c.args.args.items) _ _ c.in_ok-rest.ensures.left c.in_ok-rest.ensures.plan c.in_ok-rest.ensures.light c.calls.ensures
