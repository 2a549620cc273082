use Rattle.eval_frames.specs.Frames.{ground}
use Rattle.seq_meaning.specs.Trail.{due_call}
use Rattle.eval_frames.specs.Frames.{script_in}
use Rattle.eval_frames.proofs.Moving.{tired_moves}
use Rattle.eval_frames.proofs.Going.{leads_throws}
use Rattle.eval_frames.proofs.Callings.{call_on, call_throws}
use Rattle.eval_frames.proofs.calls.calls.Goals as goal

pub returns-then-rest-eq0 : goal.returns-then-rest-eq0
returns-then-rest-eq0 g c =
    let by = ground g.R.Rule.running g.R.Rules.table c.args.code.now in
    leads_throws by c.tired.ensures (tired_moves (script_in by) _ _ due_call c.if-rest-eq0.true)

pub returns-in-On : goal.returns-in-On
returns-in-On g c =
    let by = ground g.R.Rule.running g.R.Rules.table c.args.code.now in
    call_on by c.args.rest c.paid-rest.result c.paid-rest.ensures.left c.if-rest-eq0.false c.paid-rest.ensures.frames c.in-On.ensures

pub returns-in-Throws : goal.returns-in-Throws
returns-in-Throws g c =
    let by = ground g.R.Rule.running g.R.Rules.table c.args.code.now in
    call_throws by c.args.rest c.paid-rest.result c.paid-rest.ensures.left c.if-rest-eq0.false c.paid-rest.ensures.frames c.in-Throws.ensures
