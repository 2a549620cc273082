use Rattle.ahead_rules.proofs.Moves.{nothing_first}
use Rattle.ahead_rules.proofs.stepping.nothing_ahead.Goals as goal

pub returns : goal.returns
returns c = nothing_first c.args.stepping c.nil-first.result c.in_ok-next.next c.nil-first.ensures.stands c.in_ok-next.ensures
