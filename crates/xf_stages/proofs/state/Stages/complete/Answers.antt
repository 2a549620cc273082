use Rattle.std.proofs.Common.{[], true}
use Rattle.seq_plan.specs.Stages.{complete}
use Rattle.xf_stages.specs.Left.{stages_in, states_in}
use Rattle.xf_stages.proofs.RunTurns.{complete_begins}
use Rattle.xf_stages.proofs.state.Stages.complete.Goals as goal

pub returns : goal.returns
returns c = c.run.ensures [] (λ sink k. complete (stages_in c.args.self) (states_in c.args.self) sink (λ after. k [] after true)) (complete_begins c.args.self c.flow_of-flow.result c.flow_of-flow.ensures)
