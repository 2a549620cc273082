use Rattle.lazy_rules.proofs.Taking.{ok_same}
use Rattle.lazy_rules.proofs.BeginTurns.{repeat_misfit, one_begins}
use Rattle.lazy_rules.proofs.beginning.repeat_begins.Goals as goal

pub returns-in-None : goal.returns-in-None
returns-in-None c = repeat_misfit c.args.chunk c.args.args.items c.throws.result (rw c.in-None.is at c.in_ok-value.ensures) c.throws.ensures

pub returns-in-Some : goal.returns-in-Some
returns-in-Some c = ok_same c.repeat_one.result (one_begins c.args.chunk c.args.args.items c.in-Some.value.value (rw c.in-Some.is at c.in_ok-value.ensures)) c.repeat_one.ensures
