use Rattle.seq_values.specs.Plain.{plain}
use Rattle.xf_stages.proofs.ReduceTurns.{turned_stages, turned_fresh}
use Rattle.xf_stages.proofs.state.Stages.of_reducer.Goals as goal

pub returns-clause-stages : goal.returns-clause-stages
returns-clause-stages c = turned_stages (plain c.args.value.value) (plain c.in_ok-found.found.1.value) c.in_ok-found.found.0.items c.turned.result.items c.in_ok-found.ensures c.turned.ensures

pub returns-clause-fresh : goal.returns-clause-fresh
returns-clause-fresh c = turned_fresh (plain c.args.value.value) (plain c.in_ok-found.found.1.value) c.in_ok-found.found.0.items c.turned.result.items c.in_ok-found.ensures c.turned.ensures
