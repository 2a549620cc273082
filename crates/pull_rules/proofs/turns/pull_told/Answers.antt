use Rattle.seq_plan.specs.Turns.{told}
use Rattle.pull_rules.specs.Reducing.{left_gathering}
use Rattle.pull_rules.proofs.PullTurns.{midway_through, midway_goes}
use Rattle.pull_rules.proofs.turns.pull_told.Goals as goal

pub pull_goes-requires-clause-asked : goal.pull_goes-requires-clause-asked
pull_goes-requires-clause-asked c = c.in_ok-turn.ensures.asked

pub pull_goes-requires-clause-through : goal.pull_goes-requires-clause-through
pull_goes-requires-clause-through c = midway_through c.args.midway (left_gathering c.args.midway.gathering (told c.args.answer)) c.in_ok-turn.turn c.in_ok-turn.ensures

pub returns : goal.returns
returns c = midway_goes c.args.midway (left_gathering c.args.midway.gathering (told c.args.answer)) c.in_ok-turn.turn c.in_ok-next.next c.in_ok-turn.ensures c.in_ok-next.ensures
