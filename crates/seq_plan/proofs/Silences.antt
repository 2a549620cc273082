-- A plan that is opened is one that may be passed on to.
use Rattle.std.proofs.Common.{◌≡◌, List, subst}
use Rattle.seq_values.specs.Model.{Value}
use Rattle.seq_plan.specs.Plan.{Loop, Plan, visit, ask, seq, call, go, make, give, throw, Round, opened}
use Rattle.seq_plan.specs.Silent.{Silently, arrives, opens, finds}

module _ {C : Type 0} (rounds : Loop → List (Value C) → Round C) where
  silently_opened : (p : Plan C) → Silently rounds p (opened rounds p)
  silently_opened (go l xs k) = opens arrives
  silently_opened (visit p) = arrives
  silently_opened (ask c k) = arrives
  silently_opened (seq v k) = arrives
  silently_opened (call f xs k) = arrives
  silently_opened (make kind t k) = arrives
  silently_opened (give v) = arrives
  silently_opened (throw e) = arrives

  -- where a plan opened is another one, it may be passed on to
  pub by_opened : (p q : Plan C) → opened rounds p ≡ q → Silently rounds p q
  by_opened p q e = subst (λ x. Silently rounds p x) e (silently_opened p)

  pub silently_then : {p q r : Plan C} → Silently rounds p q → Silently rounds q r → Silently rounds p r
  silently_then arrives t = t
  silently_then (opens s) t = opens (silently_then s t)
  silently_then (finds e s) t = finds e (silently_then s t)
