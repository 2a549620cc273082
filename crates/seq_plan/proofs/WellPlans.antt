-- Plans that keep to well-formed values may be joined.
use Rattle.seq_values.specs.Model.{Value}
use Rattle.seq_plan.specs.Plan.{Plan, then, Round, plan_of}
use Rattle.seq_plan.specs.Keeping.{Keeps, keeps_visit, keeps_ask, keeps_seq, keeps_call, keeps_go, keeps_make, keeps_give, keeps_throw, KeepsRound, keeps_end, keeps_fail, keeps_visits, keeps_calls_for}

module _ {C : Type 0} {Told Asked : Value C → Type 0} where
  pub keeps-then : {p : Plan C} → Keeps Told p → {k : Value C → Plan C} → ((v : Value C) → Told v → Keeps Asked (k v)) → Keeps Asked (then p k)
  keeps-then (keeps_visit p) f = keeps_visit (keeps-then p f)
  keeps-then (keeps_ask p) f = keeps_ask (λ v w. keeps-then (p v w) f)
  keeps-then (keeps_seq x p) f = keeps_seq x (λ v w e. keeps-then (p v w e) f)
  keeps-then (keeps_call g l p) f = keeps_call g l (λ v w. keeps-then (p v w) f)
  keeps-then (keeps_go l p) f = keeps_go l (λ v g. keeps-then (p v g) f)
  keeps-then (keeps_make t p) f = keeps_make t (λ c. keeps-then (p c) f)
  keeps-then (keeps_give g) f = f _ g
  keeps-then keeps_throw f = keeps_throw

pub keeps-plan_of : {C : Type 0} {Asked : Value C → Type 0} {a : Round C} → KeepsRound Asked a → Keeps Asked (plan_of a)
keeps-plan_of (keeps_end g) = keeps_give g
keeps-plan_of keeps_fail = keeps_throw
keeps-plan_of (keeps_visits p) = keeps_visit p
keeps-plan_of (keeps_calls_for f l p) = keeps_call f l p
