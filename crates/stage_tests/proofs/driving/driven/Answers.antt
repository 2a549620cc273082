use Rattle.stage_tests.proofs.Leading.{leads_on}
use Rattle.stage_tests.proofs.driving.driven.Goals as goal

pub returns : goal.returns
returns c = leads_on c.args.turn c.in_ok-last.last c.in_ok-after.after c.in_ok-last.ensures c.in_ok-after.ensures
