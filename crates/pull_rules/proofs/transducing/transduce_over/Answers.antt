use Rattle.seq_values.specs.Plain.{plain}
use Rattle.seq_plan.specs.Stages.{reduces, enter_each}
use Rattle.xf_stages.specs.Left.{stages_in, states_in}
use Rattle.pull_rules.proofs.TransduceTurns.{over_goes}
use Rattle.pull_rules.proofs.transducing.transduce_over.Goals as goal

pub transduce_goes-requires : goal.transduce_goes-requires
transduce_goes-requires c = c.in_ok-turn.ensures.asked

pub returns : goal.returns
returns c = over_goes (stages_in c.args.stages) (plain c.args.function.value) (λ k. enter_each (stages_in c.args.stages) (states_in c.args.stages) (reduces (plain c.args.function.value) (plain c.args.answer.value)) (plain c.args.source.value) k) c.in_ok-turn.turn c.in_ok-next.next c.in_ok-turn.ensures c.in_ok-next.ensures
