use Rattle.seq_turns.proofs.Taking.{in_ok, takes_from}
use Rattle.print_rules.specs.Left.{prints}
use Rattle.print_rules.proofs.opening.elements_at.Goals as goal

pub returns-in-Turn : goal.returns-in-Turn
returns-in-Turn c = rw c.in-Turn.is at c.in_ok-resumed.ensures.goes

pub returns-in-Closed : goal.returns-in-Closed
returns-in-Closed c = in_ok prints c.resume.result (λ n h. takes_from prints (rw c.in-Closed.is at c.in_ok-resumed.ensures.goes) h) c.resume.ensures
