use Rattle.std.proofs.Common.{◌≡◌, ◌+◌, ◌-◌, ◌++◌, drop, length}
use Rattle.core_rules.proofs.joining.and_from.Given as goal

abbrev pub invariant-loop-at : goal.invariant-loop-at
invariant-loop-at l = record {
  counted : length l.all.items.items ≡ length l.fn.values.items.items + (l.at - l.fn.from);
  same : l.all.items.items ++ drop l.at l.others.items ≡ l.fn.values.items.items ++ drop l.fn.from l.others.items;
}
