use Rattle.stage_tests.specs.Following.{Follows}
use Rattle.stage_tests.proofs.driving.run.Given as goal

abbrev pub invariant-loop-left : goal.invariant-loop-left
invariant-loop-left l = record { follows : Follows l.fn.turn l.here }

abbrev pub decreases-loop-left : goal.decreases-loop-left
decreases-loop-left l = l.left
