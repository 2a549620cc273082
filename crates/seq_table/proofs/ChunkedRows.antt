-- Rows that take their collection a chunk at a time: Map and Filter.
use Rattle.std.proofs.Common.{◌≡◌, refl, ap, sym, subst, ℕ, zero, suc, ◌+◌, ◌-◌, ◌<◌, ◌≤◌, ℤ, pos, ◌+ℤ◌, ◌-ℤ◌, ◌*ℤ◌, int_lt, int_le, int_div, unsigned_abs, nat_lt, ◌<ℤ◌, ◌≤ℤ◌, Bool, true, false, cond, List, [], ◌∷◌, ◌++◌, length, take, drop, append_assoc, append-nil, Option, Some, None, arith}
use Rattle.std.proofs.lemmas.Bool.Decides.{nat_tests}
use Rattle.std.proofs.lemmas.Int.{ints, quot-rem, rem_below}
use Rattle.seq_values.specs.declared.words.Op.TheVariants as O
use Rattle.seq_values.specs.Model.{Value, nil, int, cell, empty, chunk, range, vec_seq, Values, no_values, ◌&◌, list, values, Term}
use Rattle.seq_plan.specs.Plan.{Plan, give}
use Rattle.seq_plan.specs.Nodes.{range_stop, range_count, vector_stop, ints_from, value_at, first_of, rest_of, range_at, vector_at, with_items, chunk_of, is_truthy, call_each}
use Rattle.seq_plan.specs.Sound.{Sound, sound_nil, sound_bool, sound_int, sound_keyword, sound_text, sound_vector, sound_function, sound_reduced, sound_cell, sound_empty, sound_cons, sound_chunk, sound_range, sound_vec_seq, sound_none, sound_more}
use Rattle.seq_plan.proofs.FitLemmas.{second_of_both}
use Rattle.seq_plan.specs.Lists.{items_and}
use Rattle.lazy_rows.specs.Terms.{map_on, map_rule, where_true, sift, one_or_cell, sift_on, filter_rule}
use Rattle.seq_table.specs.World.{World, Read, ◌▸◌, SeqTo, Comes, comes_seq, comes_call, comes_make, CallTo, Begins, element}
use Rattle.seq_table.specs.Lists.{◌▸▸◌, ShowsSound, Each, each_done, each_more, Sifted, sifted_done, sifted_in, sifted_out, Meant, of_map, of_filter, has_map, has_filter, At, shows, leads}
use Rattle.seq_table.proofs.Seqs.{given, given_value, seq_sound, of_seq, front, SeqCases, at_none, at_some, seq_cases}
use Rattle.seq_table.proofs.ListRows.{one_before, nothing}

-- ## Ranges

lt_is : (a b : ℤ) → a <ℤ b → int_lt a b ≡ true
lt_is a b h = by (int_lt a b) refl
  where
    by : (t : Bool) → int_lt a b ≡ t → int_lt a b ≡ true
    by true e = e
    by false e = absurd (omega (arith, ints))

lt_of : (a b : ℤ) → int_lt a b ≡ true → a <ℤ b
lt_of a b e = omega (arith, ints)

next_above : (from at : ℤ) → at <ℤ (from +ℤ (pos 32 *ℤ (int_div (at -ℤ from) (pos 32) +ℤ pos 1)))
next_above from at = omega (arith, ints, quot-rem (at -ℤ from) (pos 32), rem_below (at -ℤ from) (pos 32) (omega arith))

stop_above : (from at end : ℤ) → at <ℤ end → at <ℤ range_stop 32 from at end
stop_above from at end h = by (int_lt (from +ℤ (pos 32 *ℤ (int_div (at -ℤ from) (pos 32) +ℤ pos 1))) end)
  where
    by : (t : Bool) → at <ℤ cond t (from +ℤ (pos 32 *ℤ (int_div (at -ℤ from) (pos 32) +ℤ pos 1))) end
    by true = next_above from at
    by false = h

stop_within : (from at end : ℤ) → range_stop 32 from at end ≤ℤ end
stop_within from at end = by (int_lt (from +ℤ (pos 32 *ℤ (int_div (at -ℤ from) (pos 32) +ℤ pos 1))) end) refl
  where
    by : (t : Bool) → int_lt (from +ℤ (pos 32 *ℤ (int_div (at -ℤ from) (pos 32) +ℤ pos 1))) end ≡ t → cond t (from +ℤ (pos 32 *ℤ (int_div (at -ℤ from) (pos 32) +ℤ pos 1))) end ≤ℤ end
    by true e = omega (arith, ints)
    by false e = omega (arith, ints)

module _ {C : Type 0} (w : World C) (from end : ℤ) where
  ints_before : (n : ℕ) (at : ℤ) {l : Read C} → (at +ℤ pos n) ≤ℤ end → Begins w (range_at from (at +ℤ pos n) end) l → Begins w (range_at from at end) (ints_from at n ▸▸ l)
  ints_before zero at {l = l} h b = let e : at +ℤ pos 0 ≡ at = omega (arith, ints) in subst (λ x. Begins w (range_at from x end) l) e b
  ints_before (suc n) at {l = l} h b =
      let e : int_lt at end ≡ true = lt_is at end (omega (arith, ints)) in
      let r : range_at {C = C} from at end ≡ range from at end = ap (λ t. cond t (range from at end) empty) e in
      let d : at +ℤ pos (suc n) ≡ (at +ℤ pos 1) +ℤ pos n = omega (arith, ints) in
      let k = ints_before n (at +ℤ pos 1) (omega (arith, ints)) (subst (λ x. Begins w (range_at from x end) l) d b) in
      subst (λ x. Begins w x (int at ▸ (ints_from (at +ℤ pos 1) n ▸▸ l))) (sym r) (element {s = range from at end} refl (λ p. cc) k)

  range_before : (at : ℤ) {l : Read C} → int_lt at end ≡ true → Begins w (range_at from (range_stop 32 from at end) end) l → Begins w (range from at end) (ints_from at (range_count 32 from at end) ▸▸ l)
  range_before at {l = l} e b =
      let stop = range_stop 32 from at end in
      let above = stop_above from at end (lt_of at end e) in
      let d : stop ≡ at +ℤ pos (unsigned_abs (stop -ℤ at)) = omega (arith, ints, above) in
      let r : range_at {C = C} from at end ≡ range from at end = ap (λ t. cond t (range from at end) empty) e in
      let k = ints_before (unsigned_abs (stop -ℤ at)) at (subst (λ x. x ≤ℤ end) d (stop_within from at end)) (subst (λ x. Begins w (range_at from x end) l) d b) in
      let many : unsigned_abs (stop -ℤ at) ≡ range_count 32 from at end = sym (ap (λ t. cond t (unsigned_abs (stop -ℤ at)) 0) e) in
      subst (λ n. Begins w (range from at end) (ints_from at n ▸▸ l)) many (subst (λ x. Begins w x (ints_from at (unsigned_abs (stop -ℤ at)) ▸▸ l)) r k)

-- ## Vectors

taken : {C : Type 0} (l : List (Value C)) (at n : ℕ) → at < length l → take (suc n) (drop at l) ≡ value_at l at ∷ take n (drop (suc at) l)
taken [] at n h = absurd (omega arith)
taken (x ∷ l) zero n h = refl
taken (x ∷ l) (suc at) n h = taken l at n (omega (arith, h))

is_below : (a b : ℕ) → a < b → nat_lt a b ≡ true
is_below a b h = grind (arith, nat_tests)

below_is : (a b : ℕ) → nat_lt a b ≡ true → a < b
below_is a b h = grind (arith, nat_tests)

vector_stops : (at end : ℕ) → at < end → (at ≤ vector_stop 32 at end) × (vector_stop 32 at end ≤ end)
vector_stops at end h = (omega arith, omega arith)

module _ {C : Type 0} (w : World C) (xs : Values C) where
  items_from : (n at : ℕ) {l : Read C} → at + n ≤ length (list xs) → Begins w (vector_at xs (at + n)) l → Begins w (vector_at xs at) (take n (drop at (list xs)) ▸▸ l)
  items_from zero at {l = l} h b = let e : at + 0 ≡ at = omega arith in subst (λ i. Begins w (vector_at xs i) l) e b
  items_from (suc n) at {l = l} h b =
      let e : nat_lt at (length (list xs)) ≡ true = is_below at (length (list xs)) (omega arith) in
      let r : vector_at xs at ≡ vec_seq xs at = ap (λ t. cond t (vec_seq xs at) empty) e in
      let d : at + suc n ≡ suc at + n = omega arith in
      let k = items_from n (suc at) (omega arith) (subst (λ i. Begins w (vector_at xs i) l) d b) in
      let t : take (suc n) (drop at (list xs)) ≡ value_at (list xs) at ∷ take n (drop (suc at) (list xs)) = taken (list xs) at n (omega arith) in
      subst (λ x. Begins w x (take (suc n) (drop at (list xs)) ▸▸ l)) (sym r) (subst (λ z. Begins w (vec_seq xs at) (z ▸▸ l)) (sym t) (element {s = vec_seq xs at} refl (λ p. cc) k))

  vector_before : (at : ℕ) {l : Read C} → nat_lt at (length (list xs)) ≡ true → Begins w (vector_at xs (vector_stop 32 at (length (list xs)))) l → Begins w (vec_seq xs at) (take (vector_stop 32 at (length (list xs)) - at) (drop at (list xs)) ▸▸ l)
  vector_before at {l = l} e b =
      let stop = vector_stop 32 at (length (list xs)) in
      let h = vector_stops at (length (list xs)) (below_is at (length (list xs)) e) in
      let d : stop ≡ at + (stop - at) = omega (arith, h.0) in
      let r : vector_at xs at ≡ vec_seq xs at = ap (λ t. cond t (vec_seq xs at) empty) e in
      let k = items_from (stop - at) at (subst (λ i. i ≤ length (list xs)) d h.1) (subst (λ i. Begins w (vector_at xs i) l) d b) in
      subst (λ x. Begins w x (take (stop - at) (drop at (list xs)) ▸▸ l)) r k

module _ {C : Type 0} (w : World C) where
  -- ## Chunks

  items_before : (xs : Values C) {r : Value C} {l : Read C} → Begins w r l → Begins w (with_items xs r) (list xs ▸▸ l)
  items_before no_values b = b
  items_before (x & xs) b = element refl (λ e. cc) (items_before xs b)

  same_pair : {a b : List (Value C) × Value C} → Some a ≡ Some b → a ≡ b
  same_pair e = cc

  -- a chunked seq begins with its chunk
  pub chunk_before : {s : Value C} → Sound s → {xs : List (Value C)} {r : Value C} {l : Read C} → chunk_of 32 s ≡ Some (xs, r) → Begins w r l → Begins w s (xs ▸▸ l)
  chunk_before sound_nil e b = absurd cc
  chunk_before sound_bool e b = absurd cc
  chunk_before sound_int e b = absurd cc
  chunk_before sound_keyword e b = absurd cc
  chunk_before sound_text e b = absurd cc
  chunk_before (sound_vector h) e b = absurd cc
  chunk_before (sound_function h) e b = absurd cc
  chunk_before (sound_reduced h) e b = absurd cc
  chunk_before sound_cell e b = absurd cc
  chunk_before sound_empty e b = absurd cc
  chunk_before (sound_cons n h k) e b = absurd cc
  chunk_before (sound_chunk n sound_none k) e b = absurd cc
  chunk_before (sound_chunk {r = r'} n (sound_more {x = x} {xs = ys} h h') k) {xs = xs} {r = r} {l = l} e b =
      let p : (x ∷ list ys, r') ≡ (xs, r) = same_pair e in
      subst (λ z. Begins w (chunk (x & ys) r') (z ▸▸ l)) (ap (λ z. z.0) p) (items_before (x & ys) (subst (λ z. Begins w z l) (sym (ap (λ z. z.1) p)) b))
  chunk_before (sound_range {from = from} {at = at} {end = end} n) {xs = xs} {r = r} {l = l} e b =
      let p : (ints_from at (range_count 32 from at end), range_at from (range_stop 32 from at end) end) ≡ (xs, r) = same_pair e in
      subst (λ z. Begins w (range from at end) (z ▸▸ l)) (ap (λ z. z.0) p) (range_before w from end at (second_of_both (int_le from at) _ n) (subst (λ z. Begins w z l) (sym (ap (λ z. z.1) p)) b))
  chunk_before (sound_vec_seq {xs = ys} {at = at} n h) {xs = xs} {r = r} {l = l} e b =
      let p : (take (vector_stop 32 at (length (list ys)) - at) (drop at (list ys)), vector_at ys (vector_stop 32 at (length (list ys)))) ≡ (xs, r) = same_pair e in
      subst (λ z. Begins w (vec_seq ys at) (z ▸▸ l)) (ap (λ z. z.0) p) (vector_before w ys at n (subst (λ z. Begins w z l) (sym (ap (λ z. z.1) p)) b))

  -- what a chunk of answers leads to
  pub items_at : {defs : List (Value C)} {t : Term C} (ys zs : List (Value C)) {v : Value C} → At w defs t (zs ++ ys) v → At w defs t zs (with_items (values ys) v)
  items_at {defs = ds} {t = t} [] zs {v = v} a = subst (λ l. At w ds t l v) (append-nil zs) a
  items_at {defs = ds} {t = t} (y ∷ ys) zs {v = v} a = shows refl (λ e. cc) (items_at ys (zs ++ y ∷ []) (subst (λ l. At w ds t l v) (sym (append_assoc zs (y ∷ []) ys)) a))

  module _ (defs : List (Value C)) where
    -- ## Map

    data CalledOn (f : Value C) : List (Value C) → List (Value C) → Type 0 where
      called_none : CalledOn f [] []
      called_more : {x y : Value C} {xs ys : List (Value C)} → CallTo w defs f (x ∷ []) y → CalledOn f xs ys → CalledOn f (x ∷ xs) (y ∷ ys)

    calls_come : {f v : Value C} (xs zs : List (Value C)) (k : List (Value C) → Plan C) → Comes w defs (call_each f zs xs k) v → (ys : List (Value C)) × CalledOn f xs ys × Comes w defs (k (zs ++ ys)) v
    calls_come {v = v} [] zs k d = ([], called_none, subst (λ l. Comes w defs (k l) v) (sym (append-nil zs)) d)
    calls_come {v = v} (x ∷ xs) zs k (comes_call {y = y} a d) =
        let h = calls_come xs (zs ++ y ∷ []) k d in
        (y ∷ h.0, called_more a h.1, subst (λ l. Comes w defs (k l) v) (append_assoc zs (y ∷ []) h.0) h.2)

    each_before : {f : Value C} {xs ys : List (Value C)} {l l' : Read C} → CalledOn f xs ys → Each w defs f l l' → Each w defs f (xs ▸▸ l) (ys ▸▸ l')
    each_before called_none e = e
    each_before (called_more a h) e = each_more a (each_before h e)

    abbrev map_of : Value C → Value C → Term C
    map_of f c = record { op = O.Map; args = f ∷ c ∷ [] }

    module _ (shown : ShowsSound w) (f c : Value C) (sound : Sound c) where
      map_chunk : {s v : Value C} → SeqTo w c s → ¬ (s ≡ nil) → (xs : List (Value C)) (r : Value C) → chunk_of 32 s ≡ Some (xs, r) → (ys : List (Value C)) → CalledOn f xs ys → Comes w defs (items_and ys O.Map (f ∷ r ∷ [])) v → At w defs (map_of f c) [] v
      map_chunk {s = s} q n xs r e ys h (comes_make {c = m} part d) = subst (λ v. At w defs (map_of f c) [] v) (given_value w (with_items (values ys) (cell m)) d) (items_at ys [] (leads refl part has_map on))
        where
          on : (l : Read C) → Meant w defs (map_of f r) l → Meant w defs (map_of f c) (ys ▸▸ l)
          on l (of_map b k) = of_map (of_seq w q (chunk_before (seq_sound w shown q sound) e b)) (each_before h k)

      map_some : {s v : Value C} → SeqTo w c s → ¬ (s ≡ nil) → (r : Option (List (Value C) × Value C)) → chunk_of 32 s ≡ r → Comes w defs (map_on f s r) v → At w defs (map_of f c) [] v
      map_some {s = s} q n None e (comes_call {y = y} a d) = one_before w y O.Map (f ∷ rest_of s ∷ []) has_map on d
        where
          on : (l : Read C) → Meant w defs (map_of f (rest_of s)) l → Meant w defs (map_of f c) (y ▸ l)
          on l (of_map b k) = of_map (front w q n b) (each_more a k)
      map_some {s = s} q n (Some (xs, r)) e d = let h = calls_come xs [] (λ ys. items_and ys O.Map (f ∷ r ∷ [])) d in map_chunk q n xs r e h.0 h.1 h.2

      map_cases : {v : Value C} → SeqCases w defs c (give nil) (λ s. map_on f s (chunk_of 32 s)) v → At w defs (map_of f c) [] v
      map_cases (at_none b d) = nothing w (of_map b each_done) d
      map_cases (at_some {s = s} q n d) = map_some q n (chunk_of 32 s) refl d

      pub map_row : {v : Value C} → Comes w defs (map_rule 32 f c) v → At w defs (map_of f c) [] v
      map_row (comes_seq {s = s} q d) = map_cases (seq_cases w (give nil) (λ s. map_on f s (chunk_of 32 s)) s q d)

    -- ## Filter

    data SiftedOn (p : Value C) : List (Value C) → List (Value C) → Type 0 where
      sifted_none : SiftedOn p [] []
      sifted_one : {x y : Value C} {xs : List (Value C)} (ys : List (Value C)) → CallTo w defs p (x ∷ []) y → SiftedOn p xs ys → SiftedOn p (x ∷ xs) (where_true x y ++ ys)

    sift_comes : {p v : Value C} (xs zs : List (Value C)) (k : List (Value C) → Plan C) → Comes w defs (sift p where_true zs xs k) v → (ys : List (Value C)) × SiftedOn p xs ys × Comes w defs (k (zs ++ ys)) v
    sift_comes {v = v} [] zs k d = ([], sifted_none, subst (λ l. Comes w defs (k l) v) (sym (append-nil zs)) d)
    sift_comes {v = v} (x ∷ xs) zs k (comes_call {y = y} a d) =
        let h = sift_comes xs (zs ++ where_true x y) k d in
        (where_true x y ++ h.0, sifted_one h.0 a h.1, subst (λ l. Comes w defs (k l) v) (append_assoc zs (where_true x y) h.0) h.2)

    one_sifted : {p x y : Value C} {l : Read C} (l' : Read C) → CallTo w defs p (x ∷ []) y → (ys : List (Value C)) → (b : Bool) → is_truthy y ≡ b → Sifted w defs p l (ys ▸▸ l') → Sifted w defs p (x ▸ l) ((cond b (x ∷ []) [] ++ ys) ▸▸ l')
    one_sifted l' a ys true e h = sifted_in a e h
    one_sifted l' a ys false e h = sifted_out a e h

    sifted_before : {p : Value C} {xs ys : List (Value C)} {l l' : Read C} → SiftedOn p xs ys → Sifted w defs p l l' → Sifted w defs p (xs ▸▸ l) (ys ▸▸ l')
    sifted_before sifted_none h = h
    sifted_before {l' = l'} (sifted_one {y = y} ys a s) h = one_sifted l' a ys (is_truthy y) refl (sifted_before s h)

    abbrev filter_of : Value C → Value C → Term C
    filter_of p c = record { op = O.Filter; args = p ∷ c ∷ [] }

    module _ (shown : ShowsSound w) (p c : Value C) (sound : Sound c) where
      filter_chunk : {s v : Value C} → SeqTo w c s → ¬ (s ≡ nil) → (xs : List (Value C)) (r : Value C) → chunk_of 32 s ≡ Some (xs, r) → (ys : List (Value C)) → SiftedOn p xs ys → Comes w defs (items_and ys O.Filter (p ∷ r ∷ [])) v → At w defs (filter_of p c) [] v
      filter_chunk {s = s} q n xs r e ys h (comes_make {c = m} part d) = subst (λ v. At w defs (filter_of p c) [] v) (given_value w (with_items (values ys) (cell m)) d) (items_at ys [] (leads refl part has_filter on))
        where
          on : (l : Read C) → Meant w defs (filter_of p r) l → Meant w defs (filter_of p c) (ys ▸▸ l)
          on l (of_filter b k) = of_filter (of_seq w q (chunk_before (seq_sound w shown q sound) e b)) (sifted_before h k)

      filter_one : {s y v : Value C} → SeqTo w c s → ¬ (s ≡ nil) → CallTo w defs p (first_of s ∷ []) y → (b : Bool) → is_truthy y ≡ b → Comes w defs (one_or_cell (cond b (first_of s ∷ []) []) O.Filter (p ∷ rest_of s ∷ [])) v → At w defs (filter_of p c) [] v
      filter_one {s = s} q n a true e d = one_before w (first_of s) O.Filter (p ∷ rest_of s ∷ []) has_filter on d
        where
          on : (l : Read C) → Meant w defs (filter_of p (rest_of s)) l → Meant w defs (filter_of p c) (first_of s ▸ l)
          on l (of_filter b k) = of_filter (front w q n b) (sifted_in a e k)
      filter_one {s = s} q n a false e (comes_make {c = m} part d) = subst (λ v. At w defs (filter_of p c) [] v) (given w d) (leads refl part has_filter on)
        where
          on : (l : Read C) → Meant w defs (filter_of p (rest_of s)) l → Meant w defs (filter_of p c) l
          on l (of_filter b k) = of_filter (front w q n b) (sifted_out a e k)

      filter_some : {s v : Value C} → SeqTo w c s → ¬ (s ≡ nil) → (r : Option (List (Value C) × Value C)) → chunk_of 32 s ≡ r → Comes w defs (sift_on O.Filter where_true p s r) v → At w defs (filter_of p c) [] v
      filter_some {s = s} q n None e (comes_call {y = y} a d) = filter_one q n a (is_truthy y) refl d
      filter_some {s = s} q n (Some (xs, r)) e d = let h = sift_comes xs [] (λ ys. items_and ys O.Filter (p ∷ r ∷ [])) d in filter_chunk q n xs r e h.0 h.1 h.2

      filter_cases : {v : Value C} → SeqCases w defs c (give nil) (λ s. sift_on O.Filter where_true p s (chunk_of 32 s)) v → At w defs (filter_of p c) [] v
      filter_cases (at_none b d) = nothing w (of_filter b sifted_done) d
      filter_cases (at_some {s = s} q n d) = filter_some q n (chunk_of 32 s) refl d

      pub filter_row : {v : Value C} → Comes w defs (filter_rule 32 p c) v → At w defs (filter_of p c) [] v
      filter_row (comes_seq {s = s} q d) = filter_cases (seq_cases w (give nil) (λ s. sift_on O.Filter where_true p s (chunk_of 32 s)) s q d)
