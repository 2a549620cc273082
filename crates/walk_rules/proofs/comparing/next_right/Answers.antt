use Rattle.std.proofs.Common.{◌+◌, drop}
use Rattle.walk_rules.proofs.Equals.{each_ends, each_goes}
use Rattle.walk_rules.proofs.comparing.next_right.Goals as goal

pub returns-in-None : goal.returns-in-None
returns-in-None c = each_ends c.args.negated (drop c.args.at c.args.args.items) c.args.left.value (drop (c.args.at + 1) c.args.args.items) c.no_more.result c.requires.left (rw c.in-None.is at c.in_ok-get.ensures) c.no_more.ensures

pub returns-in-Some : goal.returns-in-Some
returns-in-Some c = each_goes c.args.negated (drop c.args.at c.args.args.items) c.args.left.value c.in-Some.right.value (drop (c.args.at + 1) c.args.args.items) (drop (c.args.at + 1 + 1) c.args.args.items) c.first_pair.result c.requires.left (rw c.in-Some.is at c.in_ok-get.ensures) c.first_pair.ensures
