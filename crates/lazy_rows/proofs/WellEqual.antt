-- Comparing keeps to well-formed values.
use Rattle.std.proofs.Common.{List}
use Rattle.seq_values.specs.Model.{Value}
use Rattle.seq_plan.specs.Plan.{Plan}
use Rattle.seq_plan.specs.WellFormed.{Well, well_bool, WellList, well_end, well_item}
use Rattle.seq_plan.specs.Keeping.{Keeps, keeps_visit, keeps_seq, keeps_go, keeps_give, keeps_throw, KeepsRound, keeps_end, keeps_fail, keeps_visits}
use Rattle.seq_plan.proofs.WellNodes.{well-first_of, well-rest_of, keeps-either, keeps-if_true, keeps-cond_round}
use Rattle.seq_plan.proofs.WellPlans.{keeps-then}
use Rattle.lazy_rows.specs.Equal.{pair_on, equal_on, equal_round, equal_each, equal_call, unequal_call}

module _ {C : Type 0} where
  keeps-pair_on : {x y : Value C} → Well x → Well y → Keeps Well (pair_on x y)
  keeps-pair_on h k = keeps-either _ keeps_throw (keeps-either _ (keeps_seq h (λ s w e. keeps_seq k (λ t u i. keeps_go (well_item w (well_item u well_end)) (λ v g. keeps_give g)))) (keeps_give well_bool))

  keeps-equal_on : {s t : Value C} → Well s → Well t → KeepsRound Well (equal_on s t)
  keeps-equal_on h k = keeps-cond_round _ (keeps_end well_bool) (keeps_visits (keeps-then (keeps-pair_on (well-first_of h) (well-first_of k)) (λ b w. keeps-if_true b (keeps_seq (well-rest_of h) (λ s u e. keeps_seq (well-rest_of k) (λ t i o. keeps_go (well_item u (well_item i well_end)) (λ v g. keeps_give g)))) (keeps_give w))))

  pub keeps-equal_round : {xs : List (Value C)} → WellList xs → KeepsRound Well (equal_round xs)
  keeps-equal_round (well_item s (well_item t well_end)) = keeps-equal_on s t
  keeps-equal_round _ = keeps_fail

  keeps-equal_each : {xs : List (Value C)} → WellList xs → {x : Value C} → Well x → {k : Value C → Plan C} → ((v : Value C) → Well v → Keeps Well (k v)) → Keeps Well (equal_each x xs k)
  keeps-equal_each well_end x f = f _ well_bool
  keeps-equal_each (well_item y q) x f = keeps_visit (keeps-then (keeps-pair_on x y) (λ b w. keeps-if_true b (keeps-equal_each q y f) (f b w)))

  pub keeps-equal_call : {xs : List (Value C)} → WellList xs → Keeps Well (equal_call xs)
  keeps-equal_call well_end = keeps_throw
  keeps-equal_call (well_item x h) = keeps-equal_each h x (λ v w. keeps_give w)

  pub keeps-unequal_call : {xs : List (Value C)} → WellList xs → Keeps Well (unequal_call xs)
  keeps-unequal_call well_end = keeps_throw
  keeps-unequal_call (well_item x h) = keeps-equal_each h x (λ v w. keeps_give well_bool)
