use Rattle.xf_stages.proofs.PassTurns.{nil_leads, some_leads}
use Rattle.xf_stages.proofs.passing.walk_found.Goals as goal

pub returns-in-Nil-clause-leads : goal.returns-in-Nil-clause-leads
returns-in-Nil-clause-leads c = rw c.in-Nil.is (nil_leads c.args.flow c.args.at)

pub returns-in-At-clause-leads : goal.returns-in-At-clause-leads
returns-in-At-clause-leads c = rw c.in-At.is (some_leads _)
