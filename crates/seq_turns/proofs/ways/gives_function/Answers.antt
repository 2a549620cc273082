use Rattle.seq_plan.specs.Plan.{give}
use Rattle.seq_turns.proofs.Taking.{takes_made}
use Rattle.seq_turns.proofs.ways.gives_function.Goals as goal

pub returns : goal.returns
returns g c = takes_made g.S.Rule.running _ c.function_made-what.result give c.function_made-what.ensures c.gives_made.ensures
