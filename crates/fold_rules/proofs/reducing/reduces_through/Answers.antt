use Rattle.seq_values.specs.Plain.{plain}
use Rattle.seq_plan.specs.Stages.{reduces, enter_each}
use Rattle.xf_stages.specs.Left.{stages_in, states_in}
use Rattle.fold_rules.specs.Left.{reduced_to}
use Rattle.fold_rules.proofs.Reductions.{turn_goes}
use Rattle.fold_rules.proofs.reducing.reduces_through.Goals as goal

pub reduction_goes-requires : goal.reduction_goes-requires
reduction_goes-requires c = c.in_ok-turn.ensures.asked

pub returns : goal.returns
returns c = turn_goes (stages_in c.args.stages) (plain c.args.function.value) (λ k. enter_each (stages_in c.args.stages) (states_in c.args.stages) (reduces (plain c.args.function.value) (plain c.args.answer.value)) (plain c.args.source.value) k) c.in_ok-turn.turn (reduced_to c.args.pending) c.reduction_goes.result c.in_ok-turn.ensures c.reduction_goes.ensures
