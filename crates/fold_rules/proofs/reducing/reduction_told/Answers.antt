use Rattle.seq_plan.specs.Turns.{told}
use Rattle.pull_rules.specs.Reducing.{left_reduction, reduction_stages, reduction_function}
use Rattle.fold_rules.specs.Left.{reduced_to}
use Rattle.fold_rules.proofs.Reductions.{turn_goes}
use Rattle.fold_rules.proofs.reducing.reduction_told.Goals as goal

pub reduction_goes-requires : goal.reduction_goes-requires
reduction_goes-requires c = c.in_ok-turn.ensures.asked

pub returns : goal.returns
returns c = turn_goes (reduction_stages c.args.reduction) (reduction_function c.args.reduction) (left_reduction c.args.reduction (told c.args.answer)) c.in_ok-turn.turn (reduced_to c.args.pending) c.reduction_goes.result c.in_ok-turn.ensures c.reduction_goes.ensures
