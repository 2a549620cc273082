use Rattle.std.proofs.Common.{ap}
use Rattle.seq_values.specs.Plain.{plain}
use Rattle.lazy_rules.proofs.Taking.{now_ok, asks_goes}
use Rattle.lazy_rules.specs.Left.{group_round, group_ends}
use Rattle.seq_plan.specs.Nodes.{if_nil}
use Rattle.lazy_rules.proofs.grouping.group_beyond.Goals as goal

pub returns-in-Now : goal.returns-in-Now
returns-in-Now c = now_ok (λ t. if_nil t (group_ends c.args.group (plain c.args.value.value)) (group_round c.args.group t)) c.parts_next_at.result (ap plain c.in_ok-source.ensures) (rw c.in-Now.is at c.seek.ensures) c.parts_next_at.ensures

pub returns-in-Ask : goal.returns-in-Ask
returns-in-Ask c = let q = rw c.in-Ask.is at c.seek.ensures in asks_goes (λ t. if_nil t (group_ends c.args.group (plain c.args.value.value)) (group_round c.args.group t)) (ap plain c.in_ok-source.ensures) q.0 c.seeks.ensures
