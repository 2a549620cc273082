use Rattle.frame_tests.proofs.Lifting.{core_takes}
use Rattle.frame_tests.proofs.small_rules.core_next.Goals as goal

pub returns : goal.returns
returns c = core_takes _ c.in_ok-rule.rule c.in_ok-rule.turn c.in_ok-rule.ensures
