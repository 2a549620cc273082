use Rattle.seq_turns.specs.Turning.{arrives}
use Rattle.seq_turns.proofs.Taking.{joins, takes_from}
use Rattle.print_rules.specs.Left.{prints}
use Rattle.print_rules.proofs.closing.resume.Goals as goal

pub loop-resumed-init : goal.loop-resumed-init
loop-resumed-init c = arrives

pub returns-in-Turn : goal.returns-in-Turn
returns-in-Turn c = takes_from prints c.loop-resumed.invariant (rw c.in-Turn.is at c.in_ok-resumed.ensures.goes)

pub loop-resumed-preserved : goal.loop-resumed-preserved
loop-resumed-preserved c = joins c.loop-resumed.invariant (rw c.in-Closed.is at c.in_ok-resumed.ensures.goes)
