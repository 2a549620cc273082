use Rattle.lazy_rules.proofs.Taking.{ok_same}
use Rattle.lazy_rules.proofs.WordTurns.{remove_pair}
use Rattle.lazy_rules.proofs.words.remove_call.Goals as goal

pub returns-in-Some : goal.returns-in-Some
returns-in-Some c = ok_same c.filter_not.result (remove_pair c.args.args.items c.in-Some.pair.0.value c.in-Some.pair.1.value (rw c.in-Some.is at c.in_ok-pair.ensures)) c.filter_not.ensures
