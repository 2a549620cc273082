use Rattle.std.proofs.Common.{sym, ◌∙◌}
use Rattle.lazy_rules.proofs.applying.take_while_answer.Goals as goal

pub returns-then-holds : goal.returns-then-holds
returns-then-holds c = rw (sym c.holds.ensures ∙ c.if-holds.true) c.first_and_rest.ensures

pub returns-else-holds : goal.returns-else-holds
returns-else-holds c = rw (sym c.holds.ensures ∙ c.if-holds.false) c.gives_nil.ensures
