use Rattle.walk_rules.proofs.Equals.{pair_goes}
use Rattle.walk_rules.proofs.comparing.pair_at.Goals as goal

pub returns : goal.returns
returns c = pair_goes c.args.left c.args.right c.args.pending c.in_ok-pending.pending c.in_ok-left.left.first c.in_ok-right.right.first c.in_ok-left.left.rest c.in_ok-right.right.rest c.steps.result c.in_ok-left.ensures.first c.in_ok-right.ensures.first c.in_ok-left.ensures.rest c.in_ok-right.ensures.rest c.in_ok-pending.ensures.rests c.in_ok-pending.ensures.others.0 c.in_ok-pending.ensures.others.1 c.in_ok-pending.ensures.others.2 c.steps.ensures
