use Rattle.std.proofs.Common.{◌≡◌}
use Rattle.core_rules.specs.Opening.{finds, pending_in, search_weight}
use Rattle.core_rules.proofs.opening.look_through.Given as goal

abbrev pub invariant-loop-rest : goal.invariant-loop-rest
invariant-loop-rest l = finds l.here.found (pending_in l.here) ≡ finds l.fn.search.found (pending_in l.fn.search)

abbrev pub decreases-loop-rest : goal.decreases-loop-rest
decreases-loop-rest l = search_weight l.here
