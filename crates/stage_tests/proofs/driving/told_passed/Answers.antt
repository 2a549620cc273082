use Rattle.stage_tests.proofs.driving.told_passed.Goals as goal

pub returns : goal.returns
returns c = c.in_ok-turn.ensures.rests
