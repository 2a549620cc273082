use Rattle.stage_tests.proofs.Leading.{leads_from}
use Rattle.stage_tests.proofs.driving.walked.Goals as goal

pub returns : goal.returns
returns c = leads_from _ _ c.in_ok-turn.turn c.in_ok-after.after c.in_ok-turn.ensures c.in_ok-after.ensures
