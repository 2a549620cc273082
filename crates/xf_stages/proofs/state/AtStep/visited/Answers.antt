use Rattle.xf_stages.specs.Left.{at_rest, left_step}
use Rattle.xf_stages.proofs.state.AtStep.visited.Goals as goal

pub returns : goal.returns
returns c = c.run.ensures (at_rest c.args.self.flow) (left_step c.args.self) c.in_ok-passing.ensures
