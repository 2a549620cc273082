use Rattle.seq_values.specs.Plain.{plain}
use Rattle.seq_plan.specs.Stages.{enter_each}
use Rattle.xf_stages.specs.Left.{stages_in, states_in}
use Rattle.xf_stages.proofs.RunTurns.{walk_begins}
use Rattle.xf_stages.proofs.state.Stages.walk.Goals as goal

pub returns : goal.returns
returns c = c.run.ensures (stages_in c.args.self) (λ sink k. enter_each (stages_in c.args.self) (states_in c.args.self) sink (plain c.args.collection.value) k) (walk_begins c.args.self c.flow_of-flow.result (plain c.args.collection.value) c.walk_on.result c.flow_of-flow.ensures c.walk_on.ensures.leads)
