use Rattle.xf_stages.proofs.PassTurns.{enters_last_leads}
use Rattle.xf_stages.proofs.passing.enters_last.Goals as goal

pub returns-clause-leads : goal.returns-clause-leads
returns-clause-leads c = enters_last_leads c.args.flow c.last_of-flow.result c.args.at c.args.item c.last_of-flow.ensures
