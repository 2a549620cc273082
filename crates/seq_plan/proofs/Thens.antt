-- What goes on after a plan.
use Rattle.std.proofs.Common.{◌≡◌, refl, ap}
use Rattle.seq_values.specs.Model.{Value}
use Rattle.seq_plan.specs.Plan.{Plan, visit, ask, seq, call, go, make, give, throw, then}

module _ {C : Type 0} where
  pub then_joins : (p : Plan C) (f g : Value C → Plan C) → then (then p f) g ≡ then p (λ v. then (f v) g)
  then_joins (visit p) f g = ap visit (then_joins p f g)
  then_joins (ask c k) f g = λ i. ask c (λ v. then_joins (k v) f g i)
  then_joins (seq v k) f g = λ i. seq v (λ w. then_joins (k w) f g i)
  then_joins (call h xs k) f g = λ i. call h xs (λ v. then_joins (k v) f g i)
  then_joins (go l xs k) f g = λ i. go l xs (λ v. then_joins (k v) f g i)
  then_joins (make kind t k) f g = λ i. make kind t (λ c. then_joins (k c) f g i)
  then_joins (give v) f g = refl
  then_joins (throw e) f g = refl

  pub then_gives : (p : Plan C) → then p give ≡ p
  then_gives (visit p) = ap visit (then_gives p)
  then_gives (ask c k) = λ i. ask c (λ v. then_gives (k v) i)
  then_gives (seq v k) = λ i. seq v (λ w. then_gives (k w) i)
  then_gives (call h xs k) = λ i. call h xs (λ v. then_gives (k v) i)
  then_gives (go l xs k) = λ i. go l xs (λ v. then_gives (k v) i)
  then_gives (make kind t k) = λ i. make kind t (λ c. then_gives (k c) i)
  then_gives (give v) = refl
  then_gives (throw e) = refl
