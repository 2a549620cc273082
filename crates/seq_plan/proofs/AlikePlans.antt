-- Like plans that go on alike are alike.
use Rattle.seq_values.specs.Model.{Value}
use Rattle.seq_plan.specs.Plan.{Plan, then, Round, plan_of}
use Rattle.seq_plan.specs.Alike.{Likeness, Like, LikePlan, like_visit, like_ask, like_seq, like_call, like_go, like_make, like_give, like_throw, LikeRound, like_ends_with, like_fails, like_visits, like_calls_for}

module _ {C D : Type 0} {R : Likeness C D} where
  pub like-then : {p : Plan C} {q : Plan D} → LikePlan R p q → {k : Value C → Plan C} {h : Value D → Plan D} → ((v : Value C) (w : Value D) → Like R v w → LikePlan R (k v) (h w)) → LikePlan R (then p k) (then q h)
  like-then (like_visit p) f = like_visit (like-then p f)
  like-then (like_ask r p) f = like_ask r (λ v w e. like-then (p v w e) f)
  like-then (like_seq r p) f = like_seq r (λ v w e. like-then (p v w e) f)
  like-then (like_call r s p) f = like_call r s (λ v w e. like-then (p v w e) f)
  like-then (like_go s p) f = like_go s (λ v w e. like-then (p v w e) f)
  like-then (like_make t p) f = like_make t (λ c d r. like-then (p c d r) f)
  like-then (like_give e) f = f _ _ e
  like-then like_throw f = like_throw

  pub like-plan_of : {a : Round C} {b : Round D} → LikeRound R a b → LikePlan R (plan_of a) (plan_of b)
  like-plan_of (like_ends_with e) = like_give e
  like-plan_of like_fails = like_throw
  like-plan_of (like_visits p) = like_visit p
  like-plan_of (like_calls_for f l p) = like_call f l p
