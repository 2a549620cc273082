use Rattle.std.proofs.Common.{◌≡◌}
use Rattle.std.specs.Prelude.{IsTrue}
use Rattle.seq_values.specs.Depth.{depth}
use Rattle.seq_values.specs.WellFormed.{is_well_formed}
use Rattle.vector_tests.proofs.depths.doubled.Given as goal

abbrev pub invariant-loop : goal.invariant-loop
invariant-loop l = (depth l.value ≡ l.counter) × IsTrue (is_well_formed l.value)
