use Rattle.std.proofs.Common.{◌≡◌, ◌+◌, length}
use Rattle.clj_script.proofs.top.unbind.Given as goal

abbrev pub invariant-loop : goal.invariant-loop
invariant-loop l = length l.locals + l.counter ≡ l.count
