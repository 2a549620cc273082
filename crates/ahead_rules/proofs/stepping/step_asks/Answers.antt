use Rattle.seq_plan.specs.Cursors.{stands}
use Rattle.ahead_rules.proofs.Moves.{step_asked}
use Rattle.ahead_rules.proofs.stepping.step_asks.Goals as goal

pub returns : goal.returns
returns c = step_asked c.args.others c.in_ok-further.further (stands c.args.place) c.args.id c.needs.result c.in_ok-further.ensures c.needs.ensures
