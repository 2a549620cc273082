use Rattle.seq_plan.specs.Turns.{told}
use Rattle.pull_rules.specs.Reducing.{left_reduction, reduction_stages, reduction_function}
use Rattle.pull_rules.proofs.TransduceTurns.{complete_goes}
use Rattle.pull_rules.proofs.turns.complete_told.Goals as goal

pub complete_goes-requires : goal.complete_goes-requires
complete_goes-requires c = c.in_ok-turn.ensures.asked

pub returns : goal.returns
returns c = complete_goes (reduction_stages c.args.reduction) (reduction_function c.args.reduction) (left_reduction c.args.reduction (told c.args.answer)) c.in_ok-turn.turn c.in_ok-next.next c.in_ok-turn.ensures c.in_ok-next.ensures
