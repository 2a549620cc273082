-- What the rules say of nodes is alike for like nodes.
use Rattle.std.proofs.Common.{◌≡◌, ℕ, zero, suc, ◌-◌, nat_le, nat_lt, ℤ, pos, ◌+ℤ◌, int_lt, int_le, Bool, true, false, cond, List, ◌++◌, length, take, drop, Option, Some, None, refl, ap, subst}
use Rattle.seq_values.specs.Model.{Value, empty, range, vec_seq, Values, list, values}
use Rattle.seq_plan.specs.Plan.{Plan, Round}
use Rattle.seq_plan.specs.Sound.{ends_cons}
use Rattle.seq_plan.proofs.FitLemmas.{fit_at_start, both, first_of_both, second_of_both, le_next, le_stop}
use Rattle.seq_plan.specs.Nodes.{deepest, longest, range_stop, range_count, vector_stop, ints_from, depth, depths, last_or, all_but_last, value_at, or_empty, first_of, with_heads, range_at, vector_at, rest_of, rests_of, chunk_of, if_true, if_nil, round_at, with_value, give_value, with_members, call_each, ask_each, Found, now, asks_for, no_seq, found}
use Rattle.seq_plan.specs.Alike.{Likeness, Fit, Like, like_nil, like_bool, like_int, like_keyword, like_text, like_vector, like_function, like_reduced, like_cell, like_empty, like_cons, like_chunk, like_range, like_vec_seq, LikeAll, like_none, like_more, LikeList, like_end, like_item, like_term, LikePlan, like_visit, like_ask, like_seq, like_call, like_go, like_make, like_give, like_throw, LikeRound, like_ends_with, like_fails, like_visits, like_calls_for}

-- two nodes are chunked alike, or neither is
pub data LikeChunk {C D : Type 0} (R : Likeness C D) : Option (List (Value C) × Value C) → Option (List (Value D) × Value D) → Type 0 where
  like_unchunked : LikeChunk R None None
  like_chunked : {xs : List (Value C)} {ys : List (Value D)} {r : Value C} {s : Value D} → LikeList R xs ys → Like R r s → LikeChunk R (Some (xs, r)) (Some (ys, s))

pub data LikeFound {C D : Type 0} (R : Likeness C D) : Found C → Found D → Type 0 where
  like_now : {v : Value C} {w : Value D} → Like R v w → LikeFound R (now v) (now w)
  like_asks_for : {c : C} {d : D} → R.same c d → LikeFound R (asks_for c) (asks_for d)
  like_no_seq : LikeFound R no_seq no_seq

-- the items of a vector from one place up to another, and what follows
abbrev chunk_to : {E : Type 0} → Values E → ℕ → ℕ → Option (List (Value E) × Value E)
chunk_to xs at stop = Some (take (stop - at) (drop at (list xs)), vector_at xs stop)

module _ {C D : Type 0} {R : Likeness C D} where
  mutual
    pub like-depth : {v : Value C} {w : Value D} → Like R v w → depth v ≡ depth w
    like-depth like_nil = refl
    like-depth like_bool = refl
    like-depth like_int = refl
    like-depth like_keyword = refl
    like-depth like_text = refl
    like-depth (like_vector h) = ap suc (like-depths h)
    like-depth (like_function h) = ap suc (like-depths h)
    like-depth (like_reduced h) = ap suc (like-depth h)
    like-depth (like_cell r) = refl
    like-depth like_empty = refl
    like-depth (like_cons n h k) = rw (like-depths h, like-depth k)
    like-depth (like_chunk n h k) = rw (like-depths h, like-depth k)
    like-depth (like_range n) = refl
    like-depth (like_vec_seq n h) = ap suc (like-depths h)

    pub like-depths : {xs : Values C} {ys : Values D} → LikeAll R xs ys → depths xs ≡ depths ys
    like-depths like_none = refl
    like-depths (like_more h k) = rw (like-depth h, like-depths k)

  pub like-last_or : {xs : Values C} {ys : Values D} → LikeAll R xs ys → {x : Value C} {y : Value D} → Like R x y → Like R (last_or x xs) (last_or y ys)
  like-last_or like_none h = h
  like-last_or (like_more p q) h = like-last_or q p

  pub like-all_but_last : {xs : Values C} {ys : Values D} → LikeAll R xs ys → {x : Value C} {y : Value D} → Like R x y → LikeAll R (all_but_last x xs) (all_but_last y ys)
  like-all_but_last like_none h = like_none
  like-all_but_last (like_more p q) h = like_more h (like-all_but_last q p)

  pub like-list : {xs : Values C} {ys : Values D} → LikeAll R xs ys → LikeList R (list xs) (list ys)
  like-list like_none = like_end
  like-list (like_more p q) = like_item p (like-list q)

  pub like-values : {xs : List (Value C)} {ys : List (Value D)} → LikeList R xs ys → LikeAll R (values xs) (values ys)
  like-values like_end = like_none
  like-values (like_item p q) = like_more p (like-values q)

  pub like-append : {xs xs' : List (Value C)} {ys ys' : List (Value D)} → LikeList R xs ys → LikeList R xs' ys' → LikeList R (xs ++ xs') (ys ++ ys')
  like-append like_end h = h
  like-append (like_item p q) h = like_item p (like-append q h)

  pub like-length : {xs : List (Value C)} {ys : List (Value D)} → LikeList R xs ys → length xs ≡ length ys
  like-length like_end = refl
  like-length (like_item p q) = ap suc (like-length q)

  pub like-value_at : {xs : List (Value C)} {ys : List (Value D)} → LikeList R xs ys → (i : ℕ) → Like R (value_at xs i) (value_at ys i)
  like-value_at like_end i = like_nil
  like-value_at (like_item p q) zero = p
  like-value_at (like_item p q) (suc i) = like-value_at q i

  pub like-take : (n : ℕ) {xs : List (Value C)} {ys : List (Value D)} → LikeList R xs ys → LikeList R (take n xs) (take n ys)
  like-take zero h = like_end
  like-take (suc n) like_end = like_end
  like-take (suc n) (like_item p q) = like_item p (like-take n q)

  pub like-drop : (n : ℕ) {xs : List (Value C)} {ys : List (Value D)} → LikeList R xs ys → LikeList R (drop n xs) (drop n ys)
  like-drop zero h = h
  like-drop (suc n) like_end = like_end
  like-drop (suc n) (like_item p q) = like-drop n q

  pub like-or_empty : {v : Value C} {w : Value D} → Like R v w → Like R (or_empty v) (or_empty w)
  like-or_empty like_nil = like_empty
  like-or_empty like_bool = like_bool
  like-or_empty like_int = like_int
  like-or_empty like_keyword = like_keyword
  like-or_empty like_text = like_text
  like-or_empty (like_vector h) = like_vector h
  like-or_empty (like_function h) = like_function h
  like-or_empty (like_reduced h) = like_reduced h
  like-or_empty (like_cell h) = like_cell h
  like-or_empty like_empty = like_empty
  like-or_empty (like_cons n h k) = like_cons n h k
  like-or_empty (like_chunk n h k) = like_chunk n h k
  like-or_empty (like_range n) = like_range n
  like-or_empty (like_vec_seq n h) = like_vec_seq n h

  like-with_heads : {xs : Values C} {ys : Values D} {v : Value C} {w : Value D} → (R.sound ≡ true → ends_cons v ≡ true) → LikeAll R xs ys → Like R v w → Like R (with_heads xs v) (with_heads ys w)
  like-with_heads n like_none h = like-or_empty h
  like-with_heads n (like_more p q) h = like_cons n (like_more p q) h

  pub like-first_of : {v : Value C} {w : Value D} → Like R v w → Like R (first_of v) (first_of w)
  like-first_of (like_cons n like_none r) = like_nil
  like-first_of (like_cons n (like_more p q) r) = like-last_or q p
  like-first_of (like_chunk n like_none r) = like_nil
  like-first_of (like_chunk n (like_more p q) r) = p
  like-first_of (like_range n) = like_int
  like-first_of (like_vec_seq {at = at} n h) = like-value_at (like-list h) at
  like-first_of _ = like_nil

  like-cond_range : (b : Bool) (from at end : ℤ) → int_lt at end ≡ b → (R.sound ≡ true → int_le from at ≡ true) → Like R (cond b (range from at end) empty) (cond b (range from at end) empty)
  like-cond_range true from at end e n = like_range (λ s. both (n s) e)
  like-cond_range false from at end e n = like_empty

  pub like-range_at : (from at end : ℤ) → (R.sound ≡ true → int_le from at ≡ true) → Like R (range_at from at end) (range_at from at end)
  like-range_at from at end n = like-cond_range (int_lt at end) from at end refl n

  like-cond_seq : (b : Bool) {xs : Values C} {ys : Values D} (at : ℕ) → nat_lt at (length (list xs)) ≡ b → LikeAll R xs ys → Like R (cond b (vec_seq xs at) empty) (cond b (vec_seq ys at) empty)
  like-cond_seq true at e h = like_vec_seq (λ s. e) h
  like-cond_seq false at e h = like_empty

  pub like-vector_at : {xs : Values C} {ys : Values D} → LikeAll R xs ys → (at : ℕ) → Like R (vector_at xs at) (vector_at ys at)
  like-vector_at {xs = xs} {ys = ys} h at =
      let e : length (list xs) ≡ length (list ys) = like-length (like-list h) in
      rw (← e) (like-cond_seq (nat_lt at (length (list xs))) at refl h)

  pub like-rest_of : {v : Value C} {w : Value D} → Like R v w → Like R (rest_of v) (rest_of w)
  like-rest_of (like_cons n like_none r) = like_empty
  like-rest_of (like_cons n (like_more p q) r) = like-with_heads n (like-all_but_last q p) r
  like-rest_of (like_chunk n like_none r) = like_empty
  like-rest_of (like_chunk n (like_more p like_none) r) = r
  like-rest_of (like_chunk n (like_more p (like_more q s)) r) = like_chunk n (like_more q s) r
  like-rest_of (like_range {from = from} {at = at} {end = end} n) = like-range_at from (at +ℤ pos 1) end (λ s. le_next from at (first_of_both _ _ (n s)))
  like-rest_of (like_vec_seq {at = at} n h) = like-vector_at h (suc at)
  like-rest_of _ = like_empty

  pub like-rests_of : (n : ℕ) {v : Value C} {w : Value D} → Like R v w → Like R (rests_of n v) (rests_of n w)
  like-rests_of zero h = h
  like-rests_of (suc n) h = like-rests_of n (like-rest_of h)

  like-ints_from : (at : ℤ) (n : ℕ) → LikeList R (ints_from at n) (ints_from at n)
  like-ints_from at zero = like_end
  like-ints_from at (suc n) = like_item like_int (like-ints_from (at +ℤ pos 1) n)

  like-chunk_to : {xs : Values C} {ys : Values D} (at stop : ℕ) → LikeAll R xs ys → LikeChunk R (chunk_to xs at stop) (chunk_to ys at stop)
  like-chunk_to at stop h = like_chunked (like-take (stop - at) (like-drop at (like-list h))) (like-vector_at h stop)

  pub like-chunk_of : (size : ℕ) {v : Value C} {w : Value D} → Like R v w → LikeChunk R (chunk_of size v) (chunk_of size w)
  like-chunk_of size (like_chunk n h k) = like_chunked (like-list h) k
  like-chunk_of size (like_range {from = from} {at = at} {end = end} n) =
      like_chunked (like-ints_from at (range_count size from at end)) (like-range_at from (range_stop size from at end) end (λ s. le_stop size from at end (first_of_both _ _ (n s)) (second_of_both (int_le from at) _ (n s))))
  like-chunk_of size (like_vec_seq {xs = xs} {ys = ys} {at = at} n h) =
      let stop : ℕ → ℕ = vector_stop size at in
      subst (λ n. LikeChunk R (chunk_to xs at (stop (length (list xs)))) (chunk_to ys at n)) (ap stop (like-length (like-list h))) (like-chunk_to at (stop (length (list xs))) h)
  like-chunk_of size _ = like_unchunked

  pub like-found : {v : Value C} {w : Value D} → Like R v w → LikeFound R (found v) (found w)
  like-found like_nil = like_now like_nil
  like-found like_empty = like_now like_nil
  like-found (like_vector like_none) = like_now like_nil
  like-found (like_vector (like_more {x = x} {xs = xs} p q)) = like_now (like_vec_seq (λ s. fit_at_start x xs) (like_more p q))
  like-found (like_cons n p q) = like_now (like_cons n p q)
  like-found (like_chunk n p q) = like_now (like_chunk n p q)
  like-found (like_range n) = like_now (like_range n)
  like-found (like_vec_seq n p) = like_now (like_vec_seq n p)
  like-found (like_cell r) = like_asks_for r
  like-found _ = like_no_seq

  pub like-cond : (b : Bool) {p q : Plan C} {p' q' : Plan D} → LikePlan R p p' → LikePlan R q q' → LikePlan R (cond b p q) (cond b p' q')
  like-cond true h k = h
  like-cond false h k = k

  pub like-if_nil : {v : Value C} {w : Value D} {p q : Plan C} {p' q' : Plan D} → Like R v w → LikePlan R p p' → LikePlan R q q' → LikePlan R (if_nil v p q) (if_nil w p' q')
  like-if_nil like_nil h k = h
  like-if_nil _ h k = k

  pub like-if_true : {v : Value C} {w : Value D} {p q : Plan C} {p' q' : Plan D} → Like R v w → LikePlan R p p' → LikePlan R q q' → LikePlan R (if_true v p q) (if_true w p' q')
  like-if_true like_nil h k = k
  like-if_true (like_bool {b = b}) h k = like-cond b h k
  like-if_true _ h k = h

  pub like-round_at : {v : Value C} {w : Value D} {p q : Round C} {p' q' : Round D} → Like R v w → LikeRound R p p' → LikeRound R q q' → LikeRound R (round_at v p q) (round_at w p' q')
  like-round_at like_nil h k = h
  like-round_at _ h k = k

  pub like-with_value : {v : Value C} {w : Value D} → Like R v w → {k : Value C → Plan C} {h : Value D → Plan D} → ((v : Value C) (w : Value D) → Like R v w → LikePlan R (k v) (h w)) → LikePlan R (with_value v k) (with_value w h)
  like-with_value {v = v} {w = w} p f =
      let e : depth v ≡ depth w = like-depth p in
      rw (← e) (like-cond (nat_le (depth v) deepest) (f _ _ p) like_throw)

  pub like-give_value : {v : Value C} {w : Value D} → Like R v w → LikePlan R (give_value v) (give_value w)
  like-give_value p = like-with_value p (λ v w e. like_give e)

  pub like-with_members : {xs : List (Value C)} {ys : List (Value D)} → LikeList R xs ys → {k : List (Value C) → Plan C} {h : List (Value D) → Plan D} → ((vs : List (Value C)) (ws : List (Value D)) → LikeList R vs ws → LikePlan R (k vs) (h ws)) → LikePlan R (with_members xs k) (with_members ys h)
  like-with_members {xs = xs} {ys = ys} p f =
      let e : length xs ≡ length ys = like-length p in
      rw (← e) (like-cond (nat_le (length xs) longest) (f _ _ p) like_throw)

  -- the members stay the same
  pub like-with_these : {xs : List (Value C)} {ys : List (Value D)} → LikeList R xs ys → (k : List (Value C) → Plan C) (h : List (Value D) → Plan D) → LikePlan R (k xs) (h ys) → LikePlan R (with_members xs k) (with_members ys h)
  like-with_these {xs = xs} {ys = ys} p k h f =
      let e : length xs ≡ length ys = like-length p in
      rw (← e) (like-cond (nat_le (length xs) longest) f like_throw)

  pub like-call_each : {f : Value C} {g : Value D} → Like R f g → {xs : List (Value C)} {ys : List (Value D)} → LikeList R xs ys → {zs : List (Value C)} {us : List (Value D)} → LikeList R zs us → {k : List (Value C) → Plan C} {h : List (Value D) → Plan D} → ((vs : List (Value C)) (ws : List (Value D)) → LikeList R vs ws → LikePlan R (k vs) (h ws)) → LikePlan R (call_each f zs xs k) (call_each g us ys h)
  like-call_each hf like_end hz hk = hk _ _ hz
  like-call_each hf (like_item p q) hz hk = like_call hf (like_item p like_end) (λ v w e. like-call_each hf q (like-append hz (like_item e like_end)) hk)

  pub like-ask_each : {xs : List (Value C)} {ys : List (Value D)} → LikeList R xs ys → {zs : List (Value C)} {us : List (Value D)} → LikeList R zs us → {k : List (Value C) → Plan C} {h : List (Value D) → Plan D} → ((vs : List (Value C)) (ws : List (Value D)) → LikeList R vs ws → LikePlan R (k vs) (h ws)) → LikePlan R (ask_each zs xs k) (ask_each us ys h)
  like-ask_each like_end hz hk = hk _ _ hz
  like-ask_each (like_item (like_cell r) q) hz hk = like_ask r (λ v w e. like-ask_each q (like-append hz (like_item e like_end)) hk)
  like-ask_each (like_item _ q) hz hk = like_throw

  -- A row of a rule is alike by one line over these.
  pub ruleset made_alike = (like_visit, like_ask, like_seq, like_call, like_go, like_make, like_give, like_throw, like_term, like_item, like_end, like_nil, like_bool, like_int, like_keyword, like_text, like_vector, like_function, like_reduced, like_empty, like_cell, like_more, like_none, like_ends_with, like_fails, like_visits, like_calls_for, like-if_nil, like-if_true, like-round_at, like-chunk_of, like-first_of, like-rest_of, like-call_each, like-ask_each, like-list, like-values, like-append, like-with_value, like-give_value, like-with_members)
