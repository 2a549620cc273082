-- Lists of well-formed elements are well formed, and so is what goes on with them.
use Rattle.std.proofs.Common.{◌≡◌, ℤ, pos, int_lt, true, false, List, [], ◌∷◌, ◌++◌, reverse, refl, arith}
use Rattle.std.proofs.lemmas.Int.{ints}
use mathlib.Core.List.{reverse_aux}
use Rattle.seq_values.specs.declared.words.Op.{Op}
use Rattle.seq_values.specs.WellFormedTerms.{takes}
use Rattle.seq_values.specs.Model.{Value, cons, Values, list, values}
use Rattle.seq_plan.specs.Plan.{Plan}
use Rattle.seq_plan.specs.Sound.{are_some, ends_chunk}
use Rattle.seq_plan.specs.Nodes.{with_items, with_value, give_value}
use Rattle.seq_plan.specs.Lists.{list_of, give_list, put_before, with_first, lazily, first_and, items_and, with_seq}
use Rattle.seq_plan.specs.Arguments.{of_value, at_least_one}
use Rattle.seq_plan.specs.WellFormed.{sights, Shallow, Well, well_nil, well_vector, well_cell, well_empty, well_cons, well_chunk, well_range, well_vec_seq, WellAll, well_none, well_more, WellList, well_end, well_item, well_term}
use Rattle.seq_plan.specs.Keeping.{Keeps, keeps_seq, keeps_make, keeps_give, keeps_throw}
use Rattle.seq_plan.proofs.FitLemmas.{fit_at_start, both, second_of_both}
use Rattle.seq_plan.proofs.AlikeLists.{some_reversed, some_appended, comes_behind}
use Rattle.seq_plan.proofs.WellNodes.{well-list, well-values, well-append, keeps-cond, keeps-if_nil, keeps-with_value, keeps-with_members, keeps-give_value}

at_least : (n : ℤ) → int_lt n (pos 1) ≡ false → int_lt (pos 0) n ≡ true
at_least n h = grind (arith, ints)

module _ {C : Type 0} where
  well-reverse_aux : {xs : List (Value C)} → WellList xs → {ys : List (Value C)} → WellList ys → WellList (reverse_aux xs ys)
  well-reverse_aux well_end h = h
  well-reverse_aux (well_item p q) h = well-reverse_aux q (well_item p h)

  pub well-reverse : {xs : List (Value C)} → WellList xs → WellList (reverse xs)
  well-reverse h = well-reverse_aux h well_end

  pub well-list_of : {xs : List (Value C)} → WellList xs → Shallow (list_of xs) → Well (list_of xs)
  well-list_of well_end d = well_empty
  well-list_of (well_item {x = x} {xs = xs} p q) d = well_cons (both (some_reversed xs x []) refl) d (well-values (well-reverse (well_item p q))) well_nil

  pub keeps-give_list : {xs : List (Value C)} → WellList xs → Keeps Well (give_list xs)
  keeps-give_list {xs = xs} h = keeps-with_members xs (λ ys. give_value (list_of ys)) (keeps-give_value (well-list_of h))

  -- a chunk of the items, or the rest itself
  pub well-with_items : {xs : Values C} → WellAll xs → {r : Value C} → ends_chunk r ≡ true → Well r → Shallow (with_items xs r) → Well (with_items xs r)
  well-with_items well_none n h d = h
  well-with_items (well_more p q) n h d = well_chunk n d (well_more p q) h

  module _ {Asked : Value C → Type 0} where
    keeps-put_before : {x s : Value C} → Well x → Well s → comes_behind s ≡ true → {k : Value C → Plan C} → ((v : Value C) → Well v → Keeps Asked (k v)) → Keeps Asked (put_before x s k)
    keeps-put_before {x = x} p (well_cons {xs = xs} {r = r} n d q u) m {k = k} f =
        let e = well-append (well-list q) (well_item p well_end) in
        keeps-with_members (list xs ++ x ∷ []) (λ zs. with_value (cons (values zs) r) k)
        (keeps-with_value _ k (λ d. f _ (well_cons (both (some_appended (list xs) x []) (second_of_both (are_some xs) _ n)) d (well-values e) u)))
    keeps-put_before p well_nil m {k = k} f = keeps-with_value _ k (λ d. f _ (well_cons refl d (well_more p well_none) well_nil))
    keeps-put_before p q m {k = k} f = keeps-with_value _ k (λ d. f _ (well_cons m d (well_more p well_none) q))

    pub keeps-with_first : {x s : Value C} → Well x → Well s → {k : Value C → Plan C} → ((v : Value C) → Well v → Keeps Asked (k v)) → Keeps Asked (with_first x s k)
    keeps-with_first p well_nil f = keeps-put_before p well_nil refl f
    keeps-with_first p (well_vector d well_none) f = keeps-put_before p well_nil refl f
    keeps-with_first p (well_vector d (well_more {x = x} {xs = xs} q r)) f = keeps-put_before p (well_vec_seq (fit_at_start x xs) d (well_more q r)) refl f
    keeps-with_first p well_cell f = keeps-put_before p well_cell refl f
    keeps-with_first p well_empty f = keeps-put_before p well_empty refl f
    keeps-with_first p (well_cons n d q r) f = keeps-put_before p (well_cons n d q r) refl f
    keeps-with_first p (well_chunk n d q r) f = keeps-put_before p (well_chunk n d q r) refl f
    keeps-with_first p (well_range n) f = keeps-put_before p (well_range n) refl f
    keeps-with_first p (well_vec_seq n d q) f = keeps-put_before p (well_vec_seq n d q) refl f
    keeps-with_first p _ f = keeps_throw

    -- the size of a group is above 0
    pub keeps-at_least_one : (n : ℤ) {p : Plan C} → (int_lt (pos 0) n ≡ true → Keeps Asked p) → Keeps Asked (at_least_one n p)
    keeps-at_least_one n f = keeps-cond (int_lt n (pos 1)) (λ e. keeps_throw) (λ e. f (at_least n e))

    pub keeps-of_value : {k : Value C → Plan C} → ((v : Value C) → Well v → Keeps Asked (k v)) → {xs : List (Value C)} → WellList xs → Keeps Asked (of_value k xs)
    keeps-of_value f (well_item p well_end) = f _ p
    keeps-of_value f _ = keeps_throw

  pub keeps-lazily : (op : Op) {xs : List (Value C)} → WellList xs → takes op (sights (values xs)) ≡ true → Keeps Well (lazily op xs)
  keeps-lazily op h t = keeps_make (well_term h t) (λ c. keeps_give well_cell)

  pub keeps-first_and : {x : Value C} → Well x → (op : Op) {xs : List (Value C)} → WellList xs → takes op (sights (values xs)) ≡ true → Keeps Well (first_and x op xs)
  keeps-first_and x op h t = keeps_make (well_term h t) (λ c. keeps-give_value (λ d. well_cons refl d (well_more x well_none) well_cell))

  pub keeps-items_and : {ys : List (Value C)} → WellList ys → (op : Op) {xs : List (Value C)} → WellList xs → takes op (sights (values xs)) ≡ true → Keeps Well (items_and ys op xs)
  keeps-items_and y op h t = keeps_make (well_term h t) (λ c. keeps-give_value (well-with_items (well-values y) refl well_cell))

  pub keeps-with_seq : {c : Value C} → Well c → {k : Value C → Plan C} → ((v : Value C) → Well v → Keeps Well (k v)) → Keeps Well (with_seq c k)
  keeps-with_seq c f = keeps_seq c (λ s w e. keeps-if_nil s (keeps_give well_nil) (f s w))
