-- What is taken of well-formed nodes is well formed, and so is what the small plans do with it.
use Rattle.std.proofs.Common.{◌≡◌, ℕ, zero, suc, ◌-◌, max, nat_le, nat_lt, ℤ, pos, ◌+ℤ◌, int_lt, int_le, Bool, true, false, cond, List, ◌++◌, length, take, drop, Option, Some, None, refl, ap, subst}
use Rattle.seq_values.specs.Model.{Value, nil, cell, empty, cons, chunk, range, vec_seq, Values, no_values, ◌&◌, list, values}
use Rattle.seq_values.specs.WellFormedTerms.{is_seq, is_sequence}
use Rattle.seq_plan.specs.Plan.{Plan, Round}
use Rattle.seq_plan.specs.Sound.{are_some, ends_cons, ends_chunk}
use Rattle.seq_plan.specs.Nodes.{deepest, longest, range_stop, range_count, vector_stop, ints_from, depth, depths, last_or, all_but_last, value_at, or_empty, first_of, with_heads, range_at, vector_at, rest_of, chunk_of, is_nil, is_truthy, if_true, if_nil, round_at, with_value, give_value, with_members, call_each, ask_each, Found, now, asks_for, no_seq, found}
use Rattle.seq_plan.specs.WellFormed.{sight, Shallow, Well, well_nil, well_bool, well_int, well_keyword, well_text, well_cell, well_empty, well_vector, well_function, well_reduced, well_cons, well_chunk, well_range, well_vec_seq, WellAll, well_none, well_more, WellList, well_end, well_item}
use Rattle.seq_plan.specs.Keeping.{Keeps, keeps_ask, keeps_call, keeps_give, keeps_throw, KeepsRound}
use Rattle.seq_plan.proofs.FitLemmas.{fit_at_start, both, first_of_both, second_of_both, le_next, le_stop}
use Rattle.seq_plan.proofs.ShallowLemmas.{below, max_grows, le_right, but_last}

range_ends : (C : Type 0) (b : Bool) (from at end : ℤ) → is_sequence (sight {C = C} (cond b (range from at end) empty)) ≡ true
range_ends C true from at end = refl
range_ends C false from at end = refl

module _ {C : Type 0} where
  -- a chunk, and what comes behind it
  pub data WellChunk : Option (List (Value C) × Value C) → Type 0 where
    well_unchunked : WellChunk None
    well_chunked : {xs : List (Value C)} {r : Value C} → WellList xs → Well r → is_sequence (sight r) ≡ true → WellChunk (Some (xs, r))

  -- a seq that is there already
  pub data WellFound : Found C → Type 0 where
    well_now : {v : Value C} → Well v → is_seq (sight v) ≡ true → WellFound (now v)
    well_asks_for : {c : C} → WellFound (asks_for c)
    well_no_seq : WellFound no_seq

  -- ## Lists

  pub well-list : {xs : Values C} → WellAll xs → WellList (list xs)
  well-list well_none = well_end
  well-list (well_more p q) = well_item p (well-list q)

  pub well-values : {xs : List (Value C)} → WellList xs → WellAll (values xs)
  well-values well_end = well_none
  well-values (well_item p q) = well_more p (well-values q)

  pub well-append : {xs ys : List (Value C)} → WellList xs → WellList ys → WellList (xs ++ ys)
  well-append well_end h = h
  well-append (well_item p q) h = well_item p (well-append q h)

  pub well-value_at : {xs : List (Value C)} → WellList xs → (i : ℕ) → Well (value_at xs i)
  well-value_at well_end i = well_nil
  well-value_at (well_item p q) zero = p
  well-value_at (well_item p q) (suc i) = well-value_at q i

  pub well-take : (n : ℕ) {xs : List (Value C)} → WellList xs → WellList (take n xs)
  well-take zero h = well_end
  well-take (suc n) well_end = well_end
  well-take (suc n) (well_item p q) = well_item p (well-take n q)

  pub well-drop : (n : ℕ) {xs : List (Value C)} → WellList xs → WellList (drop n xs)
  well-drop zero h = h
  well-drop (suc n) well_end = well_end
  well-drop (suc n) (well_item p q) = well-drop n q

  -- ## Nodes

  well-last_or : {xs : Values C} → WellAll xs → {x : Value C} → Well x → Well (last_or x xs)
  well-last_or well_none h = h
  well-last_or (well_more p q) h = well-last_or q p

  well-all_but_last : {xs : Values C} → WellAll xs → {x : Value C} → Well x → WellAll (all_but_last x xs)
  well-all_but_last well_none h = well_none
  well-all_but_last (well_more p q) h = well_more h (well-all_but_last q p)

  well-or_empty : {v : Value C} → Well v → Well (or_empty v)
  well-or_empty well_nil = well_empty
  well-or_empty well_bool = well_bool
  well-or_empty well_int = well_int
  well-or_empty well_keyword = well_keyword
  well-or_empty well_text = well_text
  well-or_empty well_cell = well_cell
  well-or_empty well_empty = well_empty
  well-or_empty (well_vector d h) = well_vector d h
  well-or_empty (well_function b d h) = well_function b d h
  well-or_empty (well_reduced d h) = well_reduced d h
  well-or_empty (well_cons n d h k) = well_cons n d h k
  well-or_empty (well_chunk n d h k) = well_chunk n d h k
  well-or_empty (well_range n) = well_range n
  well-or_empty (well_vec_seq n d h) = well_vec_seq n d h

  well-with_heads : {xs : Values C} {r : Value C} → ends_cons r ≡ true → nat_le (suc (max (depths xs) (depth r))) deepest ≡ true → WellAll xs → Well r → Well (with_heads xs r)
  well-with_heads n d well_none h = well-or_empty h
  well-with_heads n d (well_more p q) h = well_cons n d (well_more p q) h

  pub well-first_of : {v : Value C} → Well v → Well (first_of v)
  well-first_of (well_cons n d well_none r) = well_nil
  well-first_of (well_cons n d (well_more p q) r) = well-last_or q p
  well-first_of (well_chunk n d well_none r) = well_nil
  well-first_of (well_chunk n d (well_more p q) r) = p
  well-first_of (well_range n) = well_int
  well-first_of (well_vec_seq {at = at} n d h) = well-value_at (well-list h) at
  well-first_of _ = well_nil

  well-cond_range : (b : Bool) (from at end : ℤ) → int_lt at end ≡ b → int_le from at ≡ true → Well {C = C} (cond b (range from at end) empty)
  well-cond_range true from at end e n = well_range (both n e)
  well-cond_range false from at end e n = well_empty

  pub well-range_at : (from at end : ℤ) → int_le from at ≡ true → Well {C = C} (range_at from at end)
  well-range_at from at end n = well-cond_range (int_lt at end) from at end refl n

  well-cond_seq : (b : Bool) {xs : Values C} (at : ℕ) → nat_lt at (length (list xs)) ≡ b → nat_le (suc (depths xs)) deepest ≡ true → WellAll xs → Well (cond b (vec_seq xs at) empty)
  well-cond_seq true at e d h = well_vec_seq e d h
  well-cond_seq false at e d h = well_empty

  well-vector_at : {xs : Values C} → nat_le (suc (depths xs)) deepest ≡ true → WellAll xs → (at : ℕ) → Well (vector_at xs at)
  well-vector_at {xs = xs} d h at = well-cond_seq (nat_lt at (length (list xs))) at refl d h

  pub well-rest_of : {v : Value C} → Well v → Well (rest_of v)
  well-rest_of (well_cons n d well_none r) = well_empty
  well-rest_of (well_cons {r = s} n d (well_more {x = x} {xs = xs} p q) r) = well-with_heads n (below deepest (max_grows (depth s) (but_last x xs)) d) (well-all_but_last q p) r
  well-rest_of (well_chunk n d well_none r) = well_empty
  well-rest_of (well_chunk n d (well_more p well_none) r) = r
  well-rest_of (well_chunk {r = s} n d (well_more {x = x} p (well_more {x = y} {xs = ys} q h)) r) = well_chunk n (below deepest (max_grows (depth s) (le_right (depth x) (depths (y & ys)))) d) (well_more q h) r
  well-rest_of (well_range {from = from} {at = at} {end = end} n) = well-range_at from (at +ℤ pos 1) end (le_next from at (first_of_both _ _ n))
  well-rest_of (well_vec_seq {at = at} n d h) = well-vector_at d h (suc at)
  well-rest_of _ = well_empty

  -- ## What is a sequence

  heads_end : (xs : Values C) (r : Value C) → ends_cons r ≡ true → is_sequence (sight (with_heads xs r)) ≡ true
  heads_end no_values nil e = refl
  heads_end no_values empty e = refl
  heads_end no_values (cell c) e = refl
  heads_end no_values (chunk xs r) e = refl
  heads_end no_values (range from at end) e = refl
  heads_end no_values (vec_seq xs at) e = refl
  heads_end (x & xs) r e = refl
  heads_end no_values _ e = absurd cc

  chunk_ends : (r : Value C) → ends_chunk r ≡ true → is_sequence (sight r) ≡ true
  chunk_ends empty e = refl
  chunk_ends (cell c) e = refl
  chunk_ends _ e = absurd cc

  vector_ends : (b : Bool) (xs : Values C) (at : ℕ) → is_sequence (sight (cond b (vec_seq xs at) empty)) ≡ true
  vector_ends true xs at = refl
  vector_ends false xs at = refl

  pub rest_is_sequence : {v : Value C} → Well v → is_sequence (sight (rest_of v)) ≡ true
  rest_is_sequence (well_cons n d well_none r) = refl
  rest_is_sequence (well_cons {r = s} n d (well_more {x = x} {xs = xs} p q) r) = heads_end (all_but_last x xs) s n
  rest_is_sequence (well_chunk n d well_none r) = refl
  rest_is_sequence (well_chunk {r = s} n d (well_more p well_none) r) = chunk_ends s n
  rest_is_sequence (well_chunk n d (well_more p (well_more q h)) r) = refl
  rest_is_sequence (well_range {from = from} {at = at} {end = end} n) = range_ends C (int_lt (at +ℤ pos 1) end) from (at +ℤ pos 1) end
  rest_is_sequence (well_vec_seq {xs = xs} {at = at} n d h) = vector_ends (nat_lt (suc at) (length (list xs))) xs (suc at)
  rest_is_sequence _ = refl

  -- what `seq` gives is a sequence
  pub seq_is_sequence : (v : Value C) → is_seq (sight v) ≡ true → is_sequence (sight v) ≡ true
  seq_is_sequence nil e = refl
  seq_is_sequence (cons xs r) e = refl
  seq_is_sequence (chunk xs r) e = refl
  seq_is_sequence (range from at end) e = refl
  seq_is_sequence (vec_seq xs at) e = refl
  seq_is_sequence _ e = absurd cc

  -- ## Chunks

  well-ints_from : (at : ℤ) (n : ℕ) → WellList {C = C} (ints_from at n)
  well-ints_from at zero = well_end
  well-ints_from at (suc n) = well_item well_int (well-ints_from (at +ℤ pos 1) n)

  pub well-chunk_of : (size : ℕ) {v : Value C} → Well v → WellChunk (chunk_of size v)
  well-chunk_of size (well_chunk {xs = xs} {r = s} n d h k) = well_chunked (well-list h) k (chunk_ends s (second_of_both (are_some xs) _ n))
  well-chunk_of size (well_range {from = from} {at = at} {end = end} n) =
      let stop = range_stop size from at end in
      well_chunked (well-ints_from at (range_count size from at end)) (well-range_at from stop end (le_stop size from at end (first_of_both _ _ n) (second_of_both (int_le from at) _ n))) (range_ends C (int_lt stop end) from stop end)
  well-chunk_of size (well_vec_seq {xs = xs} {at = at} n d h) =
      let stop = vector_stop size at (length (list xs)) in
      well_chunked (well-take (stop - at) (well-drop at (well-list h))) (well-vector_at d h stop) (vector_ends (nat_lt stop (length (list xs))) xs stop)
  well-chunk_of size _ = well_unchunked

  pub well-found : {v : Value C} → Well v → WellFound (found v)
  well-found well_nil = well_now well_nil refl
  well-found well_empty = well_now well_nil refl
  well-found (well_vector d well_none) = well_now well_nil refl
  well-found (well_vector d (well_more {x = x} {xs = xs} p q)) = well_now (well_vec_seq (fit_at_start x xs) d (well_more p q)) refl
  well-found (well_cons n d p q) = well_now (well_cons n d p q) refl
  well-found (well_chunk n d p q) = well_now (well_chunk n d p q) refl
  well-found (well_range n) = well_now (well_range n) refl
  well-found (well_vec_seq n d p) = well_now (well_vec_seq n d p) refl
  well-found well_cell = well_asks_for
  well-found _ = well_no_seq

  pub chunk_well : (size : ℕ) {v : Value C} → Well v → {xs : List (Value C)} {r : Value C} → chunk_of size v ≡ Some (xs, r) → WellList xs × Well r
  chunk_well size h {xs = xs} {r = r} e = by (well-chunk_of size h) e
    where
      by : {o : Option (List (Value C) × Value C)} → WellChunk o → o ≡ Some (xs, r) → WellList xs × Well r
      by well_unchunked q = absurd cc
      by (well_chunked {xs = ys} {r = s} k l i) q = let p : ◌≡◌ {A = List (Value C) × Value C} (ys, s) (xs, r) = cc in (subst (λ z. WellList z) (ap (λ z. z.0) p) k, subst (λ z. Well z) (ap (λ z. z.1) p) l)

  pub found_well : {v s : Value C} → Well v → found v ≡ now s → Well s × (is_seq (sight s) ≡ true)
  found_well {s = s} h e = by (well-found h) e
    where
      by : {f : Found C} → WellFound f → f ≡ now s → Well s × (is_seq (sight s) ≡ true)
      by (well_now {v = u} k i) q = let z : u ≡ s = cc in (subst (λ x. Well x) z k, subst (λ x. is_seq (sight x) ≡ true) z i)
      by well_asks_for q = absurd cc
      by well_no_seq q = absurd cc

  -- ## Small plans

  module _ {Asked : Value C → Type 0} where
    pub keeps-cond : (b : Bool) {p q : Plan C} → (b ≡ true → Keeps Asked p) → (b ≡ false → Keeps Asked q) → Keeps Asked (cond b p q)
    keeps-cond true h k = h refl
    keeps-cond false h k = k refl

    pub keeps-either : (b : Bool) {p q : Plan C} → Keeps Asked p → Keeps Asked q → Keeps Asked (cond b p q)
    keeps-either true h k = h
    keeps-either false h k = k

    pub keeps-if_nil : (v : Value C) {p q : Plan C} → Keeps Asked p → Keeps Asked q → Keeps Asked (if_nil v p q)
    keeps-if_nil v h k = keeps-either (is_nil v) h k

    pub keeps-if_true : (v : Value C) {p q : Plan C} → Keeps Asked p → Keeps Asked q → Keeps Asked (if_true v p q)
    keeps-if_true v h k = keeps-either (is_truthy v) h k

    pub keeps-cond_round : (b : Bool) {p q : Round C} → KeepsRound Asked p → KeepsRound Asked q → KeepsRound Asked (cond b p q)
    keeps-cond_round true h k = h
    keeps-cond_round false h k = k

    pub keeps-round_at : (v : Value C) {p q : Round C} → KeepsRound Asked p → KeepsRound Asked q → KeepsRound Asked (round_at v p q)
    keeps-round_at v h k = keeps-cond_round (is_nil v) h k

    -- a value that isn't too deep is gone on with
    pub keeps-with_value : (v : Value C) (k : Value C → Plan C) → (Shallow v → Keeps Asked (k v)) → Keeps Asked (with_value v k)
    keeps-with_value v k f = keeps-cond (nat_le (depth v) deepest) f (λ e. keeps_throw)

    -- members that aren't too many are gone on with
    pub keeps-with_members : (xs : List (Value C)) (k : List (Value C) → Plan C) → Keeps Asked (k xs) → Keeps Asked (with_members xs k)
    keeps-with_members xs k f = keeps-either (nat_le (length xs) longest) f keeps_throw

    pub keeps-call_each : {f : Value C} → Well f → {xs : List (Value C)} → WellList xs → {ys : List (Value C)} → WellList ys → {k : List (Value C) → Plan C} → ((zs : List (Value C)) → WellList zs → Keeps Asked (k zs)) → Keeps Asked (call_each f ys xs k)
    keeps-call_each f well_end y h = h _ y
    keeps-call_each f (well_item p q) y h = keeps_call f (well_item p well_end) (λ v w. keeps-call_each f q (well-append y (well_item w well_end)) h)

    pub keeps-ask_each : {xs : List (Value C)} → WellList xs → {ys : List (Value C)} → WellList ys → {k : List (Value C) → Plan C} → ((zs : List (Value C)) → WellList zs → Keeps Asked (k zs)) → Keeps Asked (ask_each ys xs k)
    keeps-ask_each well_end y h = h _ y
    keeps-ask_each (well_item well_cell q) y h = keeps_ask (λ v w. keeps-ask_each q (well-append y (well_item w well_end)) h)
    keeps-ask_each (well_item _ q) y h = keeps_throw

  pub keeps-give_value : {v : Value C} → (Shallow v → Well v) → Keeps Well (give_value v)
  keeps-give_value {v = v} h = keeps-cond (nat_le (depth v) deepest) (λ d. keeps_give (h d)) (λ e. keeps_throw)
