use Rattle.seq_plan.specs.Plan.{give}
use Rattle.seq_turns.proofs.Taking.{takes_made}
use Rattle.seq_turns.proofs.ways.gives_items_before.Goals as goal

pub returns : goal.returns
returns g c = takes_made g.S.Rule.running _ c.in_ok-what.what give c.in_ok-what.ensures c.gives_made.ensures
