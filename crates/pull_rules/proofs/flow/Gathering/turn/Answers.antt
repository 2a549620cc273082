use Rattle.pull_rules.proofs.flow.Gathering.turn.Goals as goal

pub returns : goal.returns
returns c = c.in_ok-next.ensures _ _ c.in_ok-flow.ensures
