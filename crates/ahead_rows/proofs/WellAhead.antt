-- The rules of what works ahead keep to well-formed values.
use Rattle.std.proofs.Common.{◌≡◌, ℕ, ℤ, pos, int_le, int_lt, true, List, [], ◌∷◌, Option, refl}
use Rattle.seq_values.specs.WellFormedTerms.{takes, is_seq, is_sequence}
use Rattle.seq_values.specs.declared.words.Builtin.{Builtin}
use Rattle.seq_values.specs.declared.words.Builtin.TheVariants as B
use Rattle.seq_values.specs.declared.words.Op.{Op}
use Rattle.seq_values.specs.declared.words.Op.TheVariants as O
use Rattle.seq_values.specs.Model.{Value, values}
use Rattle.seq_plan.specs.Plan.{Plan, Loop, ahead_from}
use Rattle.seq_plan.specs.WellFormed.{sight, sights, Well, well_nil, well_int, well_cell, well_cons, well_none, well_more, WellList, well_end, well_item, well_term}
use Rattle.seq_plan.specs.Keeping.{Variables, Given, Keeps, keeps_ask, keeps_seq, keeps_call, keeps_go, keeps_make, keeps_give, keeps_throw, KeepsRound, keeps_end, keeps_fail, keeps_visits}
use Rattle.seq_plan.proofs.FitLemmas.{both, first_of_both, second_of_both}
use Rattle.seq_plan.proofs.WellNodes.{WellChunk, well_unchunked, well_chunked, well-append, well-first_of, well-rest_of, well-chunk_of, rest_is_sequence, seq_is_sequence, keeps-either, keeps-if_nil, keeps-round_at, keeps-give_value, keeps-ask_each}
use Rattle.seq_plan.proofs.WellLists.{keeps-lazily, keeps-first_and, keeps-items_and, keeps-with_seq, keeps-at_least_one}
use Rattle.ahead_rows.specs.Table.{ask_of, step, pmap_rule, pmap_call, start_each, rets_on, rets_rule, step_rule, derefs_on, derefs_rule, seque_rule, seque_call, ahead_rule, ahead_one_round, near_rule, ahead_call, ahead_term, ahead_round}

module _ {C : Type 0} where
  keeps-ask_of : {v : Value C} → Well v → {k : Value C → Plan C} → ((v : Value C) → Well v → Keeps Well (k v)) → Keeps Well (ask_of v k)
  keeps-ask_of well_cell f = keeps_ask f
  keeps-ask_of well_nil f = keeps_throw
  keeps-ask_of _ f = keeps_throw

  -- ## pmap

  keeps-step : {vs fs : Value C} → Well vs → is_sequence (sight vs) ≡ true → Well fs → is_sequence (sight fs) ≡ true → {k : C → Plan C} → ((c : C) → Keeps Well (k c)) → Keeps Well (step vs fs k)
  keeps-step v a x b f =
      keeps_seq v (λ s w e. keeps-if_nil s
      (keeps_make (well_term (well_item well_nil (well_item well_nil (well_item v (well_item x well_end)))) (both a b)) f)
      (keeps_seq (well-rest_of w) (λ xs u i. keeps_make (well_term (well_item (well-first_of w) (well_item u (well_item v (well_item x well_end)))) (both i (both a b))) f)))

  keeps-pmap_rule : (processors : ℕ) {f c : Value C} → Well f → Well c → Keeps Well (pmap_rule processors f c)
  keeps-pmap_rule processors f c =
      keeps_make (well_term (well_item f (well_item c well_end)) refl) (λ r.
      keeps_make (well_term (well_item well_int (well_item well_cell well_end)) refl) (λ d.
      keeps-step well_cell refl well_cell refl (λ k. keeps_give well_cell)))

  keeps-pmap_call : (processors : ℕ) {xs : List (Value C)} → WellList xs → Keeps Well (pmap_call processors xs)
  keeps-pmap_call processors (well_item f (well_item c well_end)) = keeps-pmap_rule processors f c
  keeps-pmap_call processors _ = keeps_throw

  keeps-start_each : {f : Value C} → Well f → {xs : List (Value C)} → WellList xs → {ys : List (Value C)} → WellList ys → {k : List (Value C) → Plan C} → ((zs : List (Value C)) → WellList zs → Keeps Well (k zs)) → Keeps Well (start_each f ys xs k)
  keeps-start_each f well_end y h = h _ y
  keeps-start_each f (well_item p q) y h = keeps_make (well_term (well_item f (well_item p well_end)) refl) (λ c. keeps-start_each f q (well-append y (well_item well_cell well_end)) h)

  keeps-rets_on : {f s : Value C} → Well f → Well s → {c : Option (List (Value C) × Value C)} → WellChunk c → Keeps Well (rets_on f s c)
  keeps-rets_on f s well_unchunked = keeps_make (well_term (well_item f (well_item (well-first_of s) well_end)) refl) (λ c. keeps-first_and well_cell O.Rets (well_item f (well_item (well-rest_of s) well_end)) refl)
  keeps-rets_on f s (well_chunked x r i) = keeps-start_each f x well_end (λ ys w. keeps-items_and w O.Rets (well_item f (well_item r well_end)) refl)

  keeps-rets_rule : (size : ℕ) {f c : Value C} → Well f → Well c → Keeps Well (rets_rule size f c)
  keeps-rets_rule size f c = keeps-with_seq c (λ s w. keeps-rets_on f w (well-chunk_of size w))

  keeps-step_rule : {x xs vs fs : Value C} → Well x → Well xs → is_seq (sight xs) ≡ true → Well vs → is_sequence (sight vs) ≡ true → Well fs → Keeps Well (step_rule x xs vs fs)
  keeps-step_rule {xs = xs} x h e v a f =
      keeps_seq f (λ s w i. keeps-if_nil s
      (keeps-lazily O.Derefs (well_item v well_end) a)
      (keeps-ask_of x (λ y u. keeps-step h (seq_is_sequence xs e) (well-rest_of w) (rest_is_sequence w) (λ k. keeps-give_value (λ d. well_cons refl d (well_more u well_none) well_cell)))))

  keeps-derefs_on : {s : Value C} → Well s → {c : Option (List (Value C) × Value C)} → WellChunk c → Keeps Well (derefs_on s c)
  keeps-derefs_on s well_unchunked = keeps-ask_of (well-first_of s) (λ y w. keeps-first_and w O.Derefs (well_item (well-rest_of s) well_end) (rest_is_sequence s))
  keeps-derefs_on s (well_chunked x r i) = keeps-ask_each x well_end (λ ys w. keeps-items_and w O.Derefs (well_item r well_end) i)

  keeps-derefs_rule : (size : ℕ) {c : Value C} → Well c → Keeps Well (derefs_rule size c)
  keeps-derefs_rule size c = keeps-with_seq c (λ s w. keeps-derefs_on w (well-chunk_of size w))

  -- ## seque

  keeps-seque_rule : (n : ℤ) → int_lt (pos 0) n ≡ true → {c : Value C} → Well c → Keeps Well (seque_rule n c)
  keeps-seque_rule n b c = keeps_make (well_term (well_item well_int (well_item c well_end)) b) (λ a. keeps-lazily O.Near (well_item c (well_item well_cell well_end)) refl)

  keeps-seque_call : {xs : List (Value C)} → WellList xs → Keeps Well (seque_call xs)
  keeps-seque_call (well_item (well_int {n = n}) (well_item c well_end)) = keeps-at_least_one n (λ b. keeps-seque_rule n b c)
  keeps-seque_call (well_item _ (well_item c well_end)) = keeps_throw
  keeps-seque_call _ = keeps_throw

  keeps-ahead_rule : (n : ℤ) {c : Value C} → Well c → Keeps Well (ahead_rule n c)
  keeps-ahead_rule n c = keeps-either (int_le n (pos 0)) (keeps_give c) (keeps_seq c (λ s w e. keeps_go (well_item well_int (well_item c (well_item w well_end))) (λ v g. keeps_give g)))

  keeps-ahead_one_round : {xs : List (Value C)} → WellList xs → KeepsRound Well (ahead_one_round xs)
  keeps-ahead_one_round (well_item (well_int {n = n}) (well_item c (well_item {x = s} w well_end))) =
      keeps-round_at s
      (keeps_end c)
      (keeps_visits (keeps-either (int_le n (pos 1))
      (keeps_give (well-rest_of w))
      (keeps_seq (well-rest_of w) (λ t u e. keeps_go (well_item well_int (well_item (well-rest_of w) (well_item u well_end))) (λ v g. keeps_give g)))))
  keeps-ahead_one_round _ = keeps_fail

  keeps-near_rule : {c a : Value C} → Well c → Well a → takes O.AheadOf (sight a ∷ []) ≡ true → Keeps Well (near_rule c a)
  keeps-near_rule c a t = keeps-with_seq c (λ s w. keeps_make (well_term (well_item a well_end) t) (λ b. keeps-first_and (well-first_of w) O.Near (well_item (well-rest_of w) (well_item well_cell well_end)) refl))

  -- ## Gathered

  pub keeps-ahead_call : (processors : ℕ) (word : Builtin) {xs : List (Value C)} → WellList xs → Keeps Well (ahead_call processors word xs)
  keeps-ahead_call processors B.Pmap h = keeps-pmap_call processors h
  keeps-ahead_call processors B.Seque h = keeps-seque_call h
  keeps-ahead_call processors _ h = keeps_throw

  pub keeps-ahead_term : (size : ℕ) (op : Op) {xs : List (Value C)} → WellList xs → takes op (sights (values xs)) ≡ true → Keeps Well (ahead_term size op xs)
  keeps-ahead_term size O.Rets (well_item f (well_item c well_end)) t = keeps-rets_rule size f c
  keeps-ahead_term size O.Step (well_item x (well_item {x = xs} h (well_item {x = vs} v (well_item f well_end)))) t = keeps-step_rule x h (first_of_both (is_seq (sight xs)) _ t) v (first_of_both (is_sequence (sight vs)) _ (second_of_both (is_seq (sight xs)) _ t)) f
  keeps-ahead_term size O.Derefs (well_item c well_end) t = keeps-derefs_rule size c
  keeps-ahead_term size O.Call (well_item f (well_item x well_end)) t = keeps_call f (well_item x well_end) (λ v w. keeps_give w)
  keeps-ahead_term size O.Ahead (well_item (well_int {n = n}) (well_item c well_end)) t = keeps-ahead_rule n c
  keeps-ahead_term size O.AheadOf (well_item a well_end) t = keeps-ask_of a (λ v w. keeps-ahead_rule (pos 1) w)
  keeps-ahead_term size O.Near (well_item c (well_item well_cell well_end)) t = keeps-near_rule c well_cell refl
  keeps-ahead_term size O.Near (well_item c (well_item _ well_end)) t = absurd cc
  keeps-ahead_term size _ _ t = keeps_throw

  pub keeps-ahead_round : (l : Loop) (xs : List (Value C)) → Variables l xs → KeepsRound (Given l xs) (ahead_round l xs)
  keeps-ahead_round ahead_from xs h = keeps-ahead_one_round h
  keeps-ahead_round _ xs h = keeps_fail
