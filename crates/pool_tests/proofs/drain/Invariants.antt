use Rattle.std.proofs.Common.{◌≡◌}
use Rattle.pool_tests.proofs.drain.Given as goal

abbrev pub invariant-loop : goal.invariant-loop
invariant-loop g l = l.pass.pool ≡ l.initial.pass.pool
