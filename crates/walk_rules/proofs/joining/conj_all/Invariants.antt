use Rattle.std.proofs.Common.{◌≡◌, drop}
use Rattle.seq_values.specs.Plain.{plain, plains}
use Rattle.lazy_rows.specs.Walks.{conj_each}
use Rattle.walk_rules.proofs.joining.conj_all.Given as goal

abbrev pub invariant-loop-at : goal.invariant-loop-at
invariant-loop-at l = conj_each (plain l.whole.value) (plains (drop l.at l.args.items)) ≡ conj_each (plain l.fn.whole.value) (plains (drop 1 l.args.items))
