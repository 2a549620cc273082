use Rattle.std.proofs.Common.{◌≡◌, ◌++◌, drop}
use Rattle.lazy_rules.proofs.made_terms.with_tail.Given as goal

abbrev pub invariant-loop-place : goal.invariant-loop-place
invariant-loop-place l = l.all.items.items ++ drop l.place l.values.items ≡ l.initial.all.items.items ++ drop l.at l.values.items
