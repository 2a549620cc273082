use Rattle.seq_values.specs.Plain.{plain}
use Rattle.seq_plan.specs.Stages.{enter}
use Rattle.xf_stages.specs.Left.{stages_in, states_in}
use Rattle.xf_stages.proofs.RunTurns.{enter_begins}
use Rattle.xf_stages.proofs.state.Stages.enter.Goals as goal

pub returns : goal.returns
returns c = c.run.ensures (stages_in c.args.self) (λ sink k. enter (stages_in c.args.self) (states_in c.args.self) sink (plain c.args.item.value) k) (enter_begins c.args.self c.flow_of-flow.result c.args.item c.flow_of-flow.ensures)
