use Rattle.std.proofs.Common.{[], true}
use Rattle.seq_values.specs.Plain.{plains}
use Rattle.seq_plan.specs.Stages.{gathers, complete}
use Rattle.xf_stages.specs.Left.{stages_in, states_in}
use Rattle.pull_rules.proofs.PullTurns.{end_goes}
use Rattle.pull_rules.proofs.pulling.ends.Goals as goal

pub ends_goes-requires : goal.ends_goes-requires
ends_goes-requires c = c.in_ok-turn.ensures.asked

pub returns : goal.returns
returns c = end_goes [] (λ k. complete (stages_in c.args.pulling.stages) (states_in c.args.pulling.stages) (gathers (plains c.args.pulling.outputs.items.items)) (λ after. k [] after true)) c.in_ok-turn.turn c.in_ok-next.next c.in_ok-turn.ensures c.in_ok-next.ensures
