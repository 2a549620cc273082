use Rattle.xf_stages.proofs.PassTurns.{step_leads}
use Rattle.xf_stages.proofs.passing.step_on.Goals as goal

pub returns : goal.returns
returns c = step_leads c.args.waiting c.in_ok-more.more c.in_ok-split.split.first c.in_ok-split.split.rest c.in_ok-split.ensures.first c.in_ok-split.ensures.rest c.in_ok-more.ensures.same c.in_ok-more.ensures.walks
