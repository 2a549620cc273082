use Rattle.std.proofs.Common.{◌≡◌, drop}
use Rattle.core_fns.specs.Answering.{chosen}
use Rattle.core_fns.proofs.Walking.{left_choice}
use Rattle.core_rows.specs.Arithmetic.{of_any}
use Rattle.seq_values.specs.Plain.{plains}
use Rattle.core_fns.proofs.comparison.choose.Given as goal

abbrev pub invariant-loop-other : goal.invariant-loop-other
invariant-loop-other l = of_any (left_choice (chosen l.choice) l.best) (plains (drop l.other-index l.others)) ≡ of_any (left_choice (chosen l.choice) l.initial.best) (plains l.others)
