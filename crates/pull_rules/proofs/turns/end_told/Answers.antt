use Rattle.seq_plan.specs.Turns.{told}
use Rattle.pull_rules.specs.Reducing.{left_gathering, waiting_stages}
use Rattle.pull_rules.proofs.PullTurns.{end_goes}
use Rattle.pull_rules.proofs.turns.end_told.Goals as goal

pub ends_goes-requires : goal.ends_goes-requires
ends_goes-requires c = c.in_ok-turn.ensures.asked

pub returns : goal.returns
returns c = end_goes (waiting_stages c.args.gathering.waiting) (left_gathering c.args.gathering (told c.args.answer)) c.in_ok-turn.turn c.in_ok-next.next c.in_ok-turn.ensures c.in_ok-next.ensures
