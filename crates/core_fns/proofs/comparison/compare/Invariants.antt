use Rattle.std.proofs.Common.{◌≡◌, true, drop}
use Rattle.core_fns.specs.Answering.{is_so}
use Rattle.core_fns.proofs.Walking.{left_pairs}
use Rattle.core_rows.specs.Arithmetic.{of_any}
use Rattle.seq_values.specs.Plain.{plains}
use Rattle.core_fns.proofs.comparison.compare.Given as goal

abbrev pub invariant-loop-other : goal.invariant-loop-other
invariant-loop-other l = of_any (left_pairs (is_so l.comparison) l.previous l.so_far) (plains (drop l.other-index l.others)) ≡ of_any (left_pairs (is_so l.comparison) l.initial.previous true) (plains l.others)
