-- What Concat gives, where it stands alone and where a Mapcat makes it; and the row of Mapcat.
use Rattle.std.proofs.Common.{◌≡◌, refl, ap, sym, subst, List, [], ◌∷◌, ◌++◌, Option, Some, None}
use Rattle.seq_values.specs.declared.words.Kind.{Kind}
use Rattle.seq_values.specs.declared.words.Kind.TheVariants.{Lazy}
use Rattle.seq_values.specs.declared.words.Op.TheVariants as O
use Rattle.seq_values.specs.Model.{Value, nil, cell, cons, no_values, ◌&◌, values, Term}
use Rattle.seq_plan.specs.Plan.{Plan, give, call}
use Rattle.seq_plan.specs.Nodes.{first_of, rest_of, with_items, chunk_of, make_term}
use Rattle.seq_plan.specs.Lists.{lazily}
use Rattle.seq_plan.specs.Sound.{Sound, SoundList, sound_item}
use Rattle.lazy_rows.specs.Terms.{concat_on, concat_rule, mapcat_rule}
use Rattle.seq_table.specs.World.{World, Read, cut, done, ◌▸◌, SeqTo, Comes, comes_seq, comes_call, comes_make, CallTo, Begins, not_read}
use Rattle.seq_table.specs.Lists.{◌▸▸◌, followed, ShowsSound, Joined, joined_cut, joined_done, joined_more, spread_done, spread_more, Meant, of_concat, of_mapcat, HasList, has_concat, has_mapcat, At, stops, shows, leads, joins, is_rest}
use Rattle.seq_table.proofs.Seqs.{given, given_value, seq_sound, of_seq, front, SeqCases, at_none, at_some, seq_cases}
use Rattle.seq_table.proofs.ListRows.{nothing}
use Rattle.seq_table.proofs.ChunkedRows.{chunk_before, items_at}

module _ {C : Type 0} where
  followed_done : (l : Read C) → followed l done ≡ l
  followed_done cut = refl
  followed_done done = refl
  followed_done (x ▸ l) = ap (λ m. x ▸ m) (followed_done l)

  followed_before : (xs : List (Value C)) (l m : Read C) → followed (xs ▸▸ l) m ≡ xs ▸▸ followed l m
  followed_before [] l m = refl
  followed_before (x ∷ xs) l m = ap (λ n. x ▸ n) (followed_before xs l m)

  both_before : (ys xs : List (Value C)) (l m : Read C) → (ys ++ xs) ▸▸ followed l m ≡ ys ▸▸ followed (xs ▸▸ l) m
  both_before [] xs l m = sym (followed_before xs l m)
  both_before (y ∷ ys) xs l m = ap (λ n. y ▸ n) (both_before ys xs l m)

module _ {C : Type 0} (w : World C) where
  abbrev concat_of : List (Value C) → Term C
  concat_of cs = record { op = O.Concat; args = cs }

  -- what a Concat of two or more gives at a seq: some elements, and the Concat of what is left
  data JoinStep (defs : List (Value C)) (c : Value C) (cs : List (Value C)) (v : Value C) : Type 0 where
    skips : Begins w c done → Comes w defs (concat_rule 32 cs) v → JoinStep defs c cs v
    goes_on : (xs : List (Value C)) (r : Value C) (k : C) → ((es : List (Value C)) (t : Term C) (zs : List (Value C)) → At w es t (zs ++ xs) (cell k) → At w es t zs v) → ((l : Read C) → Begins w r l → Begins w c (xs ▸▸ l)) → w.IsPart k Lazy defs (concat_of (r ∷ cs)) → JoinStep defs c cs v

  join_on : {defs : List (Value C)} {c v : Value C} (cs : List (Value C)) → ShowsSound w → Sound c → {s : Value C} → SeqTo w c s → ¬ (s ≡ nil) → (r : Option (List (Value C) × Value C)) → chunk_of 32 s ≡ r → Comes w defs (concat_on s cs r) v → JoinStep defs c cs v
  join_on cs shown sound {s = s} q n None e (comes_make {c = m} p d) =
      goes_on (first_of s ∷ []) (rest_of s) m (λ es t zs a. subst (λ x. At w es t zs x) (given_value w (cons (first_of s & no_values) (cell m)) d) (shows refl (λ e. cc) a)) (λ l b. front w q n b) p
  join_on cs shown sound {s = s} q n (Some (xs, r)) e (comes_make {c = m} p d) =
      goes_on xs r m (λ es t zs a. subst (λ x. At w es t zs x) (given_value w (with_items (values xs) (cell m)) d) (items_at w xs zs a)) (λ l b. of_seq w q (chunk_before w (seq_sound w shown q sound) e b)) p

  join_cases : {defs : List (Value C)} {c v : Value C} (d : Value C) (cs : List (Value C)) → ShowsSound w → Sound c → SeqCases w defs c (concat_rule 32 (d ∷ cs)) (λ s. concat_on s (d ∷ cs) (chunk_of 32 s)) v → JoinStep defs c (d ∷ cs) v
  join_cases d cs shown sound (at_none b k) = skips b k
  join_cases d cs shown sound (at_some {s = s} q n k) = join_on (d ∷ cs) shown sound q n (chunk_of 32 s) refl k

  join_step : {defs : List (Value C)} {c v : Value C} (d : Value C) (cs : List (Value C)) → ShowsSound w → Sound c → Comes w defs (concat_rule 32 (c ∷ d ∷ cs)) v → JoinStep defs c (d ∷ cs) v
  join_step d cs shown sound (comes_seq {s = s} q k) = join_cases d cs shown sound (seq_cases w (concat_rule 32 (d ∷ cs)) (λ s. concat_on s (d ∷ cs) (chunk_of 32 s)) s q k)

  -- a Concat of d and of a part whose list is known
  pub joined_at : {defs es fs ys : List (Value C)} {t u : Term C} {d v : Value C} {m : C} {kind : Kind} → ShowsSound w → Sound d → w.IsPart m kind fs u → HasList u → ((l l' : Read C) → Begins w d l → Meant w fs u l' → Meant w defs t (ys ▸▸ followed l l')) → Comes w es (concat_rule 32 (d ∷ cell m ∷ [])) v → At w defs t ys v
  joined_at {defs = ds} {es = es} {fs = fs} {ys = ys} {t = t} {u = u} {d = d} {v = v} {m = m} shown sound p i f k = by (join_step (cell m) [] shown sound k)
    where
      by : JoinStep es d (cell m ∷ []) v → At w ds t ys v
      by (skips b k) = subst (λ x. At w ds t ys x) (given w k) (leads refl p i (λ l h. f done l b h))
      by (goes_on xs r c lift before part) =
          lift ds t ys (joins refl part p i (λ l l' b h. subst (λ x. Meant w ds t x) (sym (both_before ys xs l l')) (f (xs ▸▸ l) l' (before l b) h)))

  -- what holds of one term's list holds of another's
  at_map : {defs : List (Value C)} {t u : Term C} → ((l : Read C) → Meant w defs u l → Meant w defs t l) → {ys : List (Value C)} {v : Value C} → At w defs u ys v → At w defs t ys v
  at_map g (stops q m) = stops q (g _ m)
  at_map g (shows q n a) = shows q n (at_map g a)
  at_map g (leads q p i f) = leads q p i (λ l h. g _ (f l h))
  at_map g (joins q p p' i f) = joins q p p' i (λ l l' b h. g _ (f l l' b h))
  at_map g (is_rest f) = is_rest (λ l b. g _ (f l b))

  pub concat_row : ShowsSound w → (cs : List (Value C)) → SoundList cs → (defs : List (Value C)) {v : Value C} → Comes w defs (concat_rule 32 cs) v → At w defs (concat_of cs) [] v
  concat_row shown [] sound ds d = nothing w (of_concat joined_done) d
  concat_row shown (c ∷ []) sound ds {v = v} d = subst (λ x. At w ds (concat_of (c ∷ [])) [] x) (given w d) (is_rest (λ l b. of_concat (subst (λ m. Joined w (c ∷ []) m) (followed_done l) (joined_more b joined_done))))
  concat_row shown (c ∷ d ∷ cs) (sound_item safe sound) ds {v = v} k = by (join_step d cs shown safe k) (λ k. concat_row shown (d ∷ cs) sound ds k)
    where
      skip : (l : Read C) → Begins w c done → Meant w ds (concat_of (d ∷ cs)) l → Meant w ds (concat_of (c ∷ d ∷ cs)) l
      skip l b (of_concat j) = of_concat (joined_more b j)

      go : (xs : List (Value C)) (r : Value C) → ((l : Read C) → Begins w r l → Begins w c (xs ▸▸ l)) → (l : Read C) → Meant w ds (concat_of (r ∷ d ∷ cs)) l → Meant w ds (concat_of (c ∷ d ∷ cs)) (xs ▸▸ l)
      go xs r before l (of_concat joined_cut) = of_concat (subst (λ m. Joined w (c ∷ d ∷ cs) m) (followed_before xs cut cut) (joined_more (before cut not_read) joined_cut))
      go xs r before l (of_concat (joined_more {l = l1} {m = l2} b j)) = of_concat (subst (λ m. Joined w (c ∷ d ∷ cs) m) (followed_before xs l1 l2) (joined_more (before l1 b) j))

      by : JoinStep ds c (d ∷ cs) v → (Comes w ds (concat_rule 32 (d ∷ cs)) v → At w ds (concat_of (d ∷ cs)) [] v) → At w ds (concat_of (c ∷ d ∷ cs)) [] v
      by (skips b k) ih = at_map (λ l m. skip l b m) (ih k)
      by (goes_on xs r m lift before part) ih = lift ds (concat_of (c ∷ d ∷ cs)) [] (leads refl part has_concat (go xs r before))

  abbrev mapcat_of : Value C → Value C → Term C
  mapcat_of f c = record { op = O.Mapcat; args = f ∷ c ∷ [] }

  module _ (f c : Value C) (defs : List (Value C)) where
    abbrev next : Value C → Plan C
    next s = call f (first_of s ∷ []) (λ y. make_term Lazy O.Mapcat (f ∷ rest_of s ∷ []) (λ m. lazily O.Concat (y ∷ cell m ∷ [])))

    mapcat_made : {s y v : Value C} → SeqTo w c s → ¬ (s ≡ nil) → CallTo w defs f (first_of s ∷ []) y → Comes w defs (make_term Lazy O.Mapcat (f ∷ rest_of s ∷ []) (λ m. lazily O.Concat (y ∷ cell m ∷ []))) v → At w defs (mapcat_of f c) [] v
    mapcat_made {s = s} {y = y} q n a (comes_make {c = m} part (comes_make {c = k} part' e)) =
        subst (λ x. At w defs (mapcat_of f c) [] x) (given w e) (joins refl part' part has_mapcat on)
      where
        on : (l l' : Read C) → Begins w y l → Meant w defs (mapcat_of f (rest_of s)) l' → Meant w defs (mapcat_of f c) (followed l l')
        on l l' b (of_mapcat t h) = of_mapcat (front w q n t) (spread_more a b h)

    mapcat_cases : {v : Value C} → SeqCases w defs c (give nil) next v → At w defs (mapcat_of f c) [] v
    mapcat_cases (at_none b d) = nothing w (of_mapcat b spread_done) d
    mapcat_cases (at_some {s = s} q n (comes_call {y = y} a d)) = mapcat_made q n a d

    pub mapcat_row : {v : Value C} → Comes w defs (mapcat_rule f c) v → At w defs (mapcat_of f c) [] v
    mapcat_row (comes_seq {s = s} q d) = mapcat_cases (seq_cases w (give nil) next s q d)
