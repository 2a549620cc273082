use Rattle.std.proofs.Common.{◌≡◌, drop}
use Rattle.core_fns.specs.Answering.{operate}
use Rattle.core_fns.proofs.Walking.{left_sum}
use Rattle.core_rows.specs.Arithmetic.{of_any, from_left}
use Rattle.seq_values.specs.Plain.{plains}
use Rattle.core_fns.proofs.arithmetic.from_left.Given as goal

abbrev pub invariant-loop-other : goal.invariant-loop-other
invariant-loop-other l = of_any (left_sum (operate l.operation) l.so_far) (plains (drop l.other-index l.others)) ≡ of_any (from_left (operate l.operation) l.first) (plains l.others)
