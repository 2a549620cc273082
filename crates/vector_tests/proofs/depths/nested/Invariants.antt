use Rattle.std.proofs.Common.{◌≡◌}
use Rattle.std.specs.Prelude.{IsTrue}
use Rattle.seq_values.specs.Depth.{depth, keeps_depth}
use Rattle.vector_tests.proofs.depths.nested.Given as goal

abbrev pub invariant-loop : goal.invariant-loop
invariant-loop l = (depth l.value ≡ l.counter) × IsTrue (keeps_depth l.value)
