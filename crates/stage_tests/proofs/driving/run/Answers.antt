use Rattle.stage_tests.proofs.Leading.{follows_on}
use Rattle.stage_tests.proofs.driving.run.Goals as goal

pub loop-left-init : goal.loop-left-init
loop-left-init c = record { follows = λ stages h. h }

pub loop-left-preserved : goal.loop-left-preserved
loop-left-preserved c = record { follows = follows_on c.args.turn c.loop-left.here c.in_ok-here.here c.loop-left.invariant.follows c.in_ok-here.ensures }

pub returns : goal.returns
returns c = c.loop-left.invariant.follows
