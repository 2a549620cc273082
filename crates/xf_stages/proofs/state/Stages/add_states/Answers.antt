use Rattle.xf_stages.proofs.StateTurns.{all_grows, all_added}
use Rattle.xf_stages.proofs.state.Stages.add_states.Goals as goal

pub returns-clause-grows : goal.returns-clause-grows
returns-clause-grows c = all_grows c.args.self.stages.items c.args.all c.in_ok-grown.grown (rw c.deref.ensures.value at c.in_ok-grown.ensures)

pub returns-clause-states : goal.returns-clause-states
returns-clause-states c = all_added c.args.self c.args.all c.in_ok-grown.grown (rw c.deref.ensures.value at c.in_ok-grown.ensures)
