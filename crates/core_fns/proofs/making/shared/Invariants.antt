use Rattle.std.proofs.Common.{◌≡◌, take}
use Rattle.core_fns.proofs.making.shared.Given as goal

abbrev pub invariant-loop-value : goal.invariant-loop-value
invariant-loop-value l = l.copy.items ≡ take l.value-index l.values
