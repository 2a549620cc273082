use Rattle.pull_rules.proofs.flow.Reduction.of_input.Goals as goal

pub returns : goal.returns
returns c = c.in_ok-next.ensures _ _ (c.flowed.ensures _ _ c.in_ok-turn.ensures)
