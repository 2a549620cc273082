use Rattle.std.proofs.Common.{◌≡◌}
use Rattle.pool_tests.proofs.fill.Given as goal

abbrev pub invariant-loop-number : goal.invariant-loop-number
invariant-loop-number g l = l.pass.pool ≡ l.initial.pass.pool
