use Rattle.lazy_rules.proofs.Taking.{ok_same}
use Rattle.lazy_rules.proofs.BeginTurns.{apply_pair}
use Rattle.lazy_rules.proofs.beginning.apply_begins.Goals as goal

pub returns-in-Some : goal.returns-in-Some
returns-in-Some c = ok_same c.start.result (apply_pair c.args.purpose c.args.chunk c.args.args.items c.in-Some.pair.0.value c.in-Some.pair.1.value (rw c.in-Some.is at c.in_ok-pair.ensures)) c.start.ensures
