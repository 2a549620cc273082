use Rattle.std.proofs.Common.{[], true}
use Rattle.seq_values.specs.Plain.{plain}
use Rattle.seq_plan.specs.Stages.{reduces, complete}
use Rattle.xf_stages.specs.Left.{stages_in, states_in}
use Rattle.pull_rules.proofs.TransduceTurns.{complete_goes}
use Rattle.pull_rules.proofs.transducing.completes.Goals as goal

pub complete_goes-requires : goal.complete_goes-requires
complete_goes-requires c = c.in_ok-turn.ensures.asked

pub returns : goal.returns
returns c = complete_goes [] (plain c.args.function.value) (λ k. complete (stages_in c.args.stages) (states_in c.args.stages) (reduces (plain c.args.function.value) (plain c.args.answer.value)) (λ after. k [] after true)) c.in_ok-turn.turn c.in_ok-next.next c.in_ok-turn.ensures c.in_ok-next.ensures
