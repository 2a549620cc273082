use Rattle.ahead_rules.proofs.Moves.{ahead_over}
use Rattle.ahead_rules.proofs.taking.ahead_ends.Goals as goal

pub returns : goal.returns
returns c = ahead_over c.args.count c.args.left c.gives.result c.gives.ensures
