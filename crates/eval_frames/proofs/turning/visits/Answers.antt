use Rattle.eval_frames.specs.Frames.{ground, script_in}
use Rattle.seq_meaning.specs.Trail.{due_visit}
use Rattle.eval_frames.proofs.Moving.{tired_moves}
use Rattle.eval_frames.proofs.Going.{leads_throws}
use Rattle.eval_frames.proofs.Turnings.{visit_on}
use Rattle.eval_frames.proofs.turning.visits.Goals as goal

pub returns-then-rest-eq0 : goal.returns-then-rest-eq0
returns-then-rest-eq0 g c =
    let by = ground g.R.Rule.running g.R.Rules.table c.args.code.now in
    leads_throws by c.stopped.ensures (tired_moves (script_in by) _ _ due_visit c.if-rest-eq0.true)

pub returns : goal.returns
returns g c =
    let by = ground g.R.Rule.running g.R.Rules.table c.args.code.now in
    visit_on by c.args.rest c.paid.result c.paid.ensures.left c.if-rest-eq0.false c.paid.ensures.frames c.args.rule
