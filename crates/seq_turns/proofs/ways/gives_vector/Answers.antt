use Rattle.seq_plan.specs.Plan.{give}
use Rattle.seq_turns.proofs.Taking.{takes_made}
use Rattle.seq_turns.proofs.ways.gives_vector.Goals as goal

pub returns : goal.returns
returns g c = takes_made g.S.Rule.running _ c.vector_made-what.result give c.vector_made-what.ensures c.gives_made.ensures
