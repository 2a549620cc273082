-- Printing keeps to well-formed values.
use Rattle.std.proofs.Common.{ℕ, true, false, List, []}
use Rattle.seq_values.specs.Model.{Value}
use Rattle.seq_plan.specs.Plan.{Plan}
use Rattle.seq_plan.specs.WellFormed.{Well, well_nil, well_bool, well_int, well_keyword, well_text, well_vector, well_function, well_reduced, WellList, well_end, well_item}
use Rattle.seq_plan.specs.Keeping.{Keeps, keeps_seq, keeps_go, keeps_give, keeps_throw, KeepsRound, keeps_end, keeps_fail, keeps_visits}
use Rattle.seq_plan.proofs.WellNodes.{well-list, well-first_of, well-rest_of, keeps-round_at}
use Rattle.seq_plan.proofs.WellPlans.{keeps-then}
use Rattle.seq_meaning.specs.Prints.{spaced, prints_next, print_items, print_vector, print_on, value_round, rest_round, print_rule}

module _ {C : Type 0} where
  keeps-next : (so_far : List ℕ) {v : Value C} → Well v → {k : Value C → Plan C} → ((v : Value C) → Well v → Keeps Well (k v)) → Keeps Well (prints_next so_far v k)
  keeps-next so_far h f = keeps_go (well_item well_text (well_item h well_end)) (λ v g. f v g)

  keeps-items : {xs : List (Value C)} → WellList xs → (v : Value C) → Well v → Keeps Well (print_items xs v)
  keeps-items well_end v well_text = keeps_give well_text
  keeps-items (well_item p q) v well_text = keeps-next _ p (keeps-items q)
  keeps-items well_end v _ = keeps_throw
  keeps-items (well_item p q) v _ = keeps_throw

  keeps-vector : (so_far : List ℕ) {xs : List (Value C)} → WellList xs → Keeps Well (print_vector so_far xs)
  keeps-vector so_far well_end = keeps_give well_text
  keeps-vector so_far (well_item p q) = keeps-next _ p (keeps-items q)

  pub keeps-print_on : (so_far : List ℕ) {v : Value C} → Well v → Keeps Well (print_on so_far v)
  keeps-print_on so_far well_nil = keeps_give well_text
  keeps-print_on so_far (well_bool {b = true}) = keeps_give well_text
  keeps-print_on so_far (well_bool {b = false}) = keeps_give well_text
  keeps-print_on so_far well_int = keeps_give well_text
  keeps-print_on so_far well_keyword = keeps_give well_text
  keeps-print_on so_far well_text = keeps_give well_text
  keeps-print_on so_far (well_vector d h) = keeps-vector so_far (well-list h)
  keeps-print_on so_far (well_function b d h) = keeps_give well_text
  keeps-print_on so_far (well_reduced d h) = keeps-next _ h (λ v w. keeps_give w)
  keeps-print_on so_far h = keeps_seq h (λ s w e. keeps_go (well_item well_text (well_item well_bool (well_item w well_end))) (λ v g. keeps_give g))

  pub keeps-value_round : {xs : List (Value C)} → WellList xs → KeepsRound Well (value_round xs)
  keeps-value_round (well_item (well_text {bytes = so_far}) (well_item h well_end)) = keeps_visits (keeps-print_on so_far h)
  keeps-value_round _ = keeps_fail

  pub keeps-rest_round : {xs : List (Value C)} → WellList xs → KeepsRound Well (rest_round xs)
  keeps-rest_round (well_item (well_text {bytes = so_far}) (well_item (well_bool {b = after}) (well_item {x = s} w well_end))) =
      keeps-round_at s
      (keeps_end well_text)
      (keeps_visits (keeps-then (keeps-print_on (spaced after so_far) (well-first_of w)) (λ t u. keeps_seq (well-rest_of w) (λ r i e. keeps_go (well_item u (well_item well_bool (well_item i well_end))) (λ v g. keeps_give g)))))
  keeps-rest_round _ = keeps_fail

  pub keeps-print_rule : {v : Value C} → Well v → Keeps Well (print_rule v)
  keeps-print_rule h = keeps-next [] h (λ v w. keeps_give w)
