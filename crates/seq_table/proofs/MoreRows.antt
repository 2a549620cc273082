-- Rows: Keep, which takes a chunk at a time, and Near.
use Rattle.std.proofs.Common.{◌≡◌, refl, sym, subst, cond, List, [], ◌∷◌, ◌++◌, append_assoc, append-nil, Option, Some, None}
use Rattle.seq_values.specs.declared.words.Kind.TheVariants.{Future}
use Rattle.seq_values.specs.declared.words.Op.TheVariants as O
use Rattle.seq_values.specs.Model.{Value, nil, cell, values, Term}
use Rattle.seq_plan.specs.Plan.{Plan, give}
use Rattle.seq_plan.specs.Nodes.{first_of, rest_of, with_items, chunk_of, make_term}
use Rattle.seq_plan.specs.Sound.{Sound}
use Rattle.seq_plan.specs.Lists.{first_and, items_and}
use Rattle.lazy_rows.specs.Terms.{where_some, sift, one_or_cell, sift_on, keep_rule}
use Rattle.ahead_rows.specs.Table.{near_rule}
use Rattle.seq_table.specs.World.{World, Read, ◌▸◌, SeqTo, Comes, comes_seq, comes_call, comes_make, CallTo}
use Rattle.seq_table.specs.Lists.{◌▸▸◌, ShowsSound, KeptAnswers, kept_done, kept_in, kept_out, Meant, of_keep, of_near, has_keep, has_near, At, leads}
use Rattle.seq_table.proofs.Seqs.{given, given_value, seq_sound, of_seq, front, NilOr, it_is, it_isnt, nil_or, SeqCases, at_none, at_some, seq_cases}
use Rattle.seq_table.proofs.ListRows.{one_before, nothing}
use Rattle.seq_table.proofs.ChunkedRows.{chunk_before, items_at}

module _ {C : Type 0} (w : World C) (defs : List (Value C)) where
  data KeptOn (f : Value C) : List (Value C) → List (Value C) → Type 0 where
    kept_none : KeptOn f [] []
    kept_one : {x y : Value C} {xs : List (Value C)} (ys : List (Value C)) → CallTo w defs f (x ∷ []) y → KeptOn f xs ys → KeptOn f (x ∷ xs) (where_some x y ++ ys)

  keep_comes : {f v : Value C} (xs zs : List (Value C)) (k : List (Value C) → Plan C) → Comes w defs (sift f where_some zs xs k) v → (ys : List (Value C)) × KeptOn f xs ys × Comes w defs (k (zs ++ ys)) v
  keep_comes {v = v} [] zs k d = ([], kept_none, subst (λ l. Comes w defs (k l) v) (sym (append-nil zs)) d)
  keep_comes {v = v} (x ∷ xs) zs k (comes_call {y = y} a d) =
      let h = keep_comes xs (zs ++ where_some x y) k d in
      (where_some x y ++ h.0, kept_one h.0 a h.1, subst (λ l. Comes w defs (k l) v) (append_assoc zs (where_some x y) h.0) h.2)

  one_kept : {f x y : Value C} {l : Read C} (l' : Read C) → CallTo w defs f (x ∷ []) y → (ys : List (Value C)) → NilOr y → KeptAnswers w defs f l (ys ▸▸ l') → KeptAnswers w defs f (x ▸ l) ((where_some x y ++ ys) ▸▸ l')
  one_kept {f = f} {x = x} {l = l} l' a ys (it_is e) h = subst (λ z. KeptAnswers w defs f (x ▸ l) ((where_some x z ++ ys) ▸▸ l')) (sym e) (kept_out (subst (λ z. CallTo w defs f (x ∷ []) z) e a) h)
  one_kept {f = f} {x = x} {y = y} {l = l} l' a ys (it_isnt n e) h = subst (λ b. KeptAnswers w defs f (x ▸ l) ((cond b [] (y ∷ []) ++ ys) ▸▸ l')) (sym e) (kept_in a n h)

  kept_before : {f : Value C} {xs ys : List (Value C)} {l l' : Read C} → KeptOn f xs ys → KeptAnswers w defs f l l' → KeptAnswers w defs f (xs ▸▸ l) (ys ▸▸ l')
  kept_before kept_none h = h
  kept_before {l' = l'} (kept_one {y = y} ys a s) h = one_kept l' a ys (nil_or y) (kept_before s h)

  abbrev keep_of : Value C → Value C → Term C
  keep_of f c = record { op = O.Keep; args = f ∷ c ∷ [] }

  module _ (shown : ShowsSound w) (f c : Value C) (sound : Sound c) where
    keep_chunk : {s v : Value C} → SeqTo w c s → ¬ (s ≡ nil) → (xs : List (Value C)) (r : Value C) → chunk_of 32 s ≡ Some (xs, r) → (ys : List (Value C)) → KeptOn f xs ys → Comes w defs (items_and ys O.Keep (f ∷ r ∷ [])) v → At w defs (keep_of f c) [] v
    keep_chunk {s = s} q n xs r e ys h (comes_make {c = m} part d) = subst (λ v. At w defs (keep_of f c) [] v) (given_value w (with_items (values ys) (cell m)) d) (items_at w ys [] (leads refl part has_keep on))
      where
        on : (l : Read C) → Meant w defs (keep_of f r) l → Meant w defs (keep_of f c) (ys ▸▸ l)
        on l (of_keep b k) = of_keep (of_seq w q (chunk_before w (seq_sound w shown q sound) e b)) (kept_before h k)

    keep_one : {s y v : Value C} → SeqTo w c s → ¬ (s ≡ nil) → CallTo w defs f (first_of s ∷ []) y → NilOr y → Comes w defs (one_or_cell (where_some (first_of s) y) O.Keep (f ∷ rest_of s ∷ [])) v → At w defs (keep_of f c) [] v
    keep_one {s = s} {y = y} {v = v} q n a (it_isnt i e) d = one_before w y O.Keep (f ∷ rest_of s ∷ []) has_keep on (subst (λ b. Comes w defs (one_or_cell (cond b [] (y ∷ [])) O.Keep (f ∷ rest_of s ∷ [])) v) e d)
      where
        on : (l : Read C) → Meant w defs (keep_of f (rest_of s)) l → Meant w defs (keep_of f c) (y ▸ l)
        on l (of_keep b k) = of_keep (front w q n b) (kept_in a i k)
    keep_one {s = s} {y = y} {v = v} q n a (it_is e) d = none (subst (λ z. Comes w defs (one_or_cell (where_some (first_of s) z) O.Keep (f ∷ rest_of s ∷ [])) v) e d)
      where
        on : (l : Read C) → Meant w defs (keep_of f (rest_of s)) l → Meant w defs (keep_of f c) l
        on l (of_keep b k) = of_keep (front w q n b) (kept_out (subst (λ z. CallTo w defs f (first_of s ∷ []) z) e a) k)

        none : Comes w defs (one_or_cell [] O.Keep (f ∷ rest_of s ∷ [])) v → At w defs (keep_of f c) [] v
        none (comes_make {c = m} part d) = subst (λ v. At w defs (keep_of f c) [] v) (given w d) (leads refl part has_keep on)

    keep_some : {s v : Value C} → SeqTo w c s → ¬ (s ≡ nil) → (r : Option (List (Value C) × Value C)) → chunk_of 32 s ≡ r → Comes w defs (sift_on O.Keep where_some f s r) v → At w defs (keep_of f c) [] v
    keep_some {s = s} q n None e (comes_call {y = y} a d) = keep_one q n a (nil_or y) d
    keep_some {s = s} q n (Some (xs, r)) e d = let h = keep_comes xs [] (λ ys. items_and ys O.Keep (f ∷ r ∷ [])) d in keep_chunk q n xs r e h.0 h.1 h.2

    keep_cases : {v : Value C} → SeqCases w defs c (give nil) (λ s. sift_on O.Keep where_some f s (chunk_of 32 s)) v → At w defs (keep_of f c) [] v
    keep_cases (at_none b d) = nothing w (of_keep b kept_done) d
    keep_cases (at_some {s = s} q n d) = keep_some q n (chunk_of 32 s) refl d

    pub keep_row : {v : Value C} → Comes w defs (keep_rule 32 f c) v → At w defs (keep_of f c) [] v
    keep_row (comes_seq {s = s} q d) = keep_cases (seq_cases w (give nil) (λ s. sift_on O.Keep where_some f s (chunk_of 32 s)) s q d)

  abbrev near_of : Value C → Value C → Term C
  near_of c a = record { op = O.Near; args = c ∷ a ∷ [] }

  module _ (c a : Value C) where
    abbrev near_next : Value C → Plan C
    near_next s = make_term Future O.AheadOf (a ∷ []) (λ b. first_and (first_of s) O.Near (rest_of s ∷ cell b ∷ []))

    near_cases : {v : Value C} → SeqCases w defs c (give nil) near_next v → At w defs (near_of c a) [] v
    near_cases (at_none b d) = nothing w (of_near b) d
    near_cases (at_some {s = s} q n (comes_make {c = m} part d)) = one_before w (first_of s) O.Near (rest_of s ∷ cell m ∷ []) has_near on d
      where
        on : (l : Read C) → Meant w defs (near_of (rest_of s) (cell m)) l → Meant w defs (near_of c a) (first_of s ▸ l)
        on l (of_near b) = of_near (front w q n b)

    pub near_row : {v : Value C} → Comes w defs (near_rule c a) v → At w defs (near_of c a) [] v
    near_row (comes_seq {s = s} q d) = near_cases (seq_cases w (give nil) near_next s q d)
