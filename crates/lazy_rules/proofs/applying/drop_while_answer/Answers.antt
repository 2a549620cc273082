use Rattle.std.proofs.Common.{sym, ◌∙◌}
use Rattle.lazy_rules.proofs.applying.drop_while_answer.Goals as goal

pub returns-then-holds : goal.returns-then-holds
returns-then-holds c = rw (sym c.holds.ensures ∙ c.if-holds.true) c.drop_while_goes.ensures

pub returns-else-holds : goal.returns-else-holds
returns-else-holds c = rw (sym c.holds.ensures ∙ c.if-holds.false) c.give_node.ensures
