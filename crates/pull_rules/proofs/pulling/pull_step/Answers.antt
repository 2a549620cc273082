use Rattle.seq_values.specs.Plain.{plain}
use Rattle.seq_turns.specs.Seen.{rested}
use Rattle.pull_rules.proofs.PullTurns.{step_through, step_goes}
use Rattle.pull_rules.proofs.pulling.pull_step.Goals as goal

pub pull_goes-requires-clause-asked : goal.pull_goes-requires-clause-asked
pull_goes-requires-clause-asked c = c.in_ok-turn.ensures.asked

pub pull_goes-requires-clause-through : goal.pull_goes-requires-clause-through
pull_goes-requires-clause-through c = step_through c.args.pulling (plain c.in_ok-split.split.first.value) c.in_ok-turn.turn c.in_ok-turn.ensures

pub returns : goal.returns
returns c = step_goes c.args.pulling c.args.place (plain c.in_ok-split.split.first.value) (rested c.in_ok-split.split.rest) c.in_ok-turn.turn c.in_ok-next.next c.in_ok-split.ensures.first c.in_ok-split.ensures.rest c.in_ok-turn.ensures c.in_ok-next.ensures
