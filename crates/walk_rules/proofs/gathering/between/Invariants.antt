use Rattle.std.proofs.Common.{◌≡◌, ◌++◌, drop}
use Rattle.walk_rules.proofs.gathering.between.Given as goal

abbrev pub invariant-loop-at : goal.invariant-loop-at
invariant-loop-at l = l.kept.items.items ++ drop l.at l.args.items ≡ drop 1 l.args.items
