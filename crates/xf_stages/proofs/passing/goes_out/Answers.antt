use Rattle.xf_stages.proofs.PassTurns.{goes_out_as}
use Rattle.xf_stages.proofs.passing.goes_out.Goals as goal

pub returns-clause-leads : goal.returns-clause-leads
returns-clause-leads c = goes_out_as _ c.args.at c.args.item c.requires
