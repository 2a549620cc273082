use Rattle.lazy_rules.proofs.GroupTurns.{goes_within}
use Rattle.lazy_rules.proofs.grouping.group_within.Goals as goal

pub returns : goal.returns
returns c = goes_within c.args.group c.args.place c.group_visits.result c.group_visits.ensures
