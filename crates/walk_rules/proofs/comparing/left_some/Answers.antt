use Rattle.walk_rules.proofs.Equals.{right_ends}
use Rattle.walk_rules.proofs.comparing.left_some.Goals as goal

pub returns-in-Nil : goal.returns-in-Nil
returns-in-Nil c = rw c.in-Nil.is (right_ends c.args.left c.args.pending c.ended.result c.ended.ensures)
