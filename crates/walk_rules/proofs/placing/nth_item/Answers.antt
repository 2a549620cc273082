use Rattle.walk_rules.proofs.Places.{there, past}
use Rattle.walk_rules.proofs.placing.nth_item.Goals as goal

pub returns-in-Some : goal.returns-in-Some
returns-in-Some c = there c.args.default c.args.items.items c.args.at c.in-Some.value c.inside.result (rw c.in-Some.is at c.in_ok-value.ensures) c.inside.ensures

pub returns-in-None : goal.returns-in-None
returns-in-None c = past c.args.default c.args.items.items c.args.at c.outside.result (rw c.in-None.is at c.in_ok-value.ensures) c.outside.ensures
