use Rattle.pull_rules.proofs.waiting.output_passed.Goals as goal

pub returns : goal.returns
returns c = c.flowed.ensures _ _ c.in_ok-turn.ensures
