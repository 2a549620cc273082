-- The calls of lazy operations keep to well-formed values.
use Rattle.std.proofs.Common.{◌≡◌, ℤ, pos, true, List, [], ◌∷◌, refl}
use Rattle.seq_values.specs.Sight.{Sight, an_int}
use Rattle.seq_values.specs.WellFormed.{binds_stage}
use Rattle.seq_values.specs.WellFormedTerms.{takes}
use Rattle.seq_values.specs.declared.words.Op.{Op}
use Rattle.seq_values.specs.declared.words.Op.TheVariants as O
use Rattle.seq_values.specs.declared.words.Target.TheVariants as T
use Rattle.seq_values.specs.declared.words.XfKind.{XfKind}
use Rattle.seq_values.specs.declared.words.XfKind.TheVariants as X
use Rattle.seq_values.specs.Model.{Value, function, no_values, ◌&◌, values}
use Rattle.seq_plan.specs.Lists.{lazily}
use Rattle.seq_plan.specs.WellFormed.{sights, Well, well_int, well_function, well_cell, well_none, well_more, WellList, well_end, well_item, well_term}
use Rattle.seq_plan.specs.Keeping.{Keeps, keeps_make, keeps_give, keeps_throw}
use Rattle.seq_plan.proofs.FitLemmas.{le_itself}
use Rattle.seq_plan.proofs.WellNodes.{well-values, well-range_at, keeps-with_value, keeps-give_value}
use Rattle.seq_plan.proofs.WellLists.{keeps-lazily, keeps-first_and, keeps-at_least_one}
use Rattle.lazy_rows.specs.Calls.{give_stage, with_function, map_call, remove_call, with_count, partition_call, iterate_rule, iterate_call, range_call, repeat_call, cycle_call}

-- a stage that binds one function, and an operation on a function and a collection
abbrev TakesFunction : Op → XfKind → Type 0
TakesFunction op kind = ((f : Sight) → binds_stage kind (f ∷ []) ≡ true) × ((f c : Sight) → takes op (f ∷ c ∷ []) ≡ true)

-- the same of a count
abbrev TakesCount : Op → XfKind → Type 0
TakesCount op kind = ((n : ℤ) → binds_stage kind (an_int n ∷ []) ≡ true) × ((n : ℤ) (c : Sight) → takes op (an_int n ∷ c ∷ []) ≡ true)

module _ {C : Type 0} where
  keeps-give_stage : (kind : XfKind) {xs : List (Value C)} → WellList xs → binds_stage kind (sights (values xs)) ≡ true → Keeps Well (give_stage kind xs)
  keeps-give_stage kind h b = keeps-give_value (λ d. well_function b d (well-values h))

  pub keeps-with_function : (op : Op) (kind : XfKind) → TakesFunction op kind → {xs : List (Value C)} → WellList xs → Keeps Well (with_function op kind xs)
  keeps-with_function op kind t (well_item f well_end) = keeps-give_stage kind (well_item f well_end) (t.0 _)
  keeps-with_function op kind t (well_item f (well_item c well_end)) = keeps-lazily op (well_item f (well_item c well_end)) (t.1 _ _)
  keeps-with_function op kind t _ = keeps_throw

  pub keeps-map_call : {xs : List (Value C)} → WellList xs → Keeps Well (map_call xs)
  keeps-map_call (well_item f (well_item c (well_item d well_end))) = keeps-lazily O.MapN (well_item f (well_item c (well_item d well_end))) refl
  keeps-map_call (well_item f (well_item c (well_item d (well_item e well_end)))) = keeps-lazily O.MapN (well_item f (well_item c (well_item d (well_item e well_end)))) refl
  keeps-map_call (well_item f (well_item c (well_item d (well_item e (well_item g well_end))))) = keeps-lazily O.MapN (well_item f (well_item c (well_item d (well_item e (well_item g well_end))))) refl
  keeps-map_call h = keeps-with_function O.Map X.Map (λ f. refl, λ f c. refl) h

  pub keeps-remove_call : {xs : List (Value C)} → WellList xs → Keeps Well (remove_call xs)
  keeps-remove_call (well_item p well_end) = keeps-give_stage X.Remove (well_item p well_end) refl
  keeps-remove_call (well_item {x = p} w (well_item {x = c} h well_end)) = keeps-with_value (function T.Complement (p & no_values)) (λ q. lazily O.Filter (q ∷ c ∷ [])) (λ d. keeps-lazily O.Filter (well_item (well_function refl d (well_more w well_none)) (well_item h well_end)) refl)
  keeps-remove_call _ = keeps_throw

  pub keeps-with_count : (op : Op) (kind : XfKind) → TakesCount op kind → {xs : List (Value C)} → WellList xs → Keeps Well (with_count op kind xs)
  keeps-with_count op kind t (well_item well_int well_end) = keeps-give_stage kind (well_item well_int well_end) (t.0 _)
  keeps-with_count op kind t (well_item well_int (well_item c well_end)) = keeps-lazily op (well_item well_int (well_item c well_end)) (t.1 _ _)
  keeps-with_count op kind t (well_item _ well_end) = keeps_throw
  keeps-with_count op kind t (well_item _ (well_item c well_end)) = keeps_throw
  keeps-with_count op kind t _ = keeps_throw

  pub keeps-partition_call : {xs : List (Value C)} → WellList xs → Keeps Well (partition_call xs)
  keeps-partition_call (well_item (well_int {n = n}) well_end) = keeps-at_least_one n (λ b. keeps-give_stage X.PartitionAll (well_item well_int well_end) b)
  keeps-partition_call (well_item (well_int {n = n}) (well_item c well_end)) = keeps-at_least_one n (λ b. keeps-lazily O.Parts (well_item well_int (well_item c well_end)) b)
  keeps-partition_call (well_item _ well_end) = keeps_throw
  keeps-partition_call (well_item _ (well_item c well_end)) = keeps_throw
  keeps-partition_call _ = keeps_throw

  keeps-iterate_rule : {f x : Value C} → Well f → Well x → Keeps Well (iterate_rule f x)
  keeps-iterate_rule f x = keeps-first_and x O.Next (well_item f (well_item x well_end)) refl

  pub keeps-iterate_call : {xs : List (Value C)} → WellList xs → Keeps Well (iterate_call xs)
  keeps-iterate_call (well_item f (well_item x well_end)) = keeps-iterate_rule f x
  keeps-iterate_call _ = keeps_throw

  pub keeps-range_call : {xs : List (Value C)} → WellList xs → Keeps Well (range_call xs)
  keeps-range_call well_end = keeps-iterate_rule (well_function refl refl well_none) well_int
  keeps-range_call (well_item (well_int {n = b}) well_end) = keeps_give (well-range_at (pos 0) (pos 0) b refl)
  keeps-range_call (well_item (well_int {n = a}) (well_item (well_int {n = b}) well_end)) = keeps_give (well-range_at a a b (le_itself a))
  keeps-range_call (well_item _ well_end) = keeps_throw
  keeps-range_call (well_item _ (well_item _ well_end)) = keeps_throw
  keeps-range_call _ = keeps_throw

  pub keeps-repeat_call : {xs : List (Value C)} → WellList xs → Keeps Well (repeat_call xs)
  keeps-repeat_call (well_item x well_end) = keeps-lazily O.Repeat (well_item x well_end) refl
  keeps-repeat_call (well_item well_int (well_item x well_end)) = keeps_make (well_term (well_item x well_end) refl) (λ m. keeps-lazily O.Take (well_item well_int (well_item well_cell well_end)) refl)
  keeps-repeat_call (well_item _ (well_item x well_end)) = keeps_throw
  keeps-repeat_call _ = keeps_throw

  pub keeps-cycle_call : {xs : List (Value C)} → WellList xs → Keeps Well (cycle_call xs)
  keeps-cycle_call (well_item c well_end) = keeps-lazily O.Cycle (well_item c (well_item c well_end)) refl
  keeps-cycle_call _ = keeps_throw
