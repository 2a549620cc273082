use Rattle.pull_rules.proofs.waiting.call_answered.Goals as goal

pub returns : goal.returns
returns c = c.flowed.ensures _ _ c.in_ok-turn.ensures
