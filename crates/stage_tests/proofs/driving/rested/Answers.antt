use Rattle.stage_tests.proofs.Leading.{rest_leads, none_leads}
use Rattle.stage_tests.proofs.driving.rested.Goals as goal

pub returns-in-Rest : goal.returns-in-Rest
returns-in-Rest c = rest_leads c.args.turn c.in-Rest.stages c.at_end.result c.in-Rest.is c.at_end.ensures

pub returns-in_default : goal.returns-in_default
returns-in_default c = none_leads c.args.turn c.no_end.result c.no_end.ensures
