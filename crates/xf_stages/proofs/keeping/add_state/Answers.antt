use Rattle.seq_values.specs.Plain.{plain, plains}
use Rattle.xf_stages.proofs.Leading.{in_ok}
use Rattle.xf_stages.proofs.StateTurns.{add_none, add_some}
use Rattle.xf_stages.proofs.keeping.add_state.Goals as goal

pub returns-in-None : goal.returns-in-None
returns-in-None c = add_none c.args.stage.now (plains c.args.all.items.items) (rw c.in-None.is at c.in_ok-state.ensures)

pub returns-in-Some : goal.returns-in-Some
returns-in-Some c = in_ok c.grow.result (λ g h. add_some c.args.stage.now (plain c.in-Some.state.value) c.args.all.items.items g (rw c.in-Some.is at c.in_ok-state.ensures) h) c.grow.ensures
