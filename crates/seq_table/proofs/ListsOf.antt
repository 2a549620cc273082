-- One theorem for all rows: what a part gives begins as the list of its term.
use Rattle.std.proofs.Common.{◌≡◌, refl, ap, sym, subst, ℕ, List, [], ◌∷◌, ◌++◌}
use Rattle.seq_values.specs.Model.{Value, cell, Term, gave}
use Rattle.clj_script.specs.Trees.{Program}
use Rattle.lazy_rows.specs.Terms.{concat_rule}
use Rattle.seq_values.specs.declared.words.Op.TheVariants as O
use Rattle.seq_meaning.specs.Evaluates.{term_plan}
use Rattle.seq_plan.specs.Nodes.{first_of, rest_of}
use Rattle.seq_meaning.specs.Names.{Name}
use Rattle.seq_meaning.specs.Gives.{work, of_term, Of, Gives}
use Rattle.seq_plan.specs.Sound.{Sound, SoundList, sound_end, sound_item, SoundRules}
use Rattle.seq_plan.proofs.SoundByLikes.{sound_rules}
use Rattle.seq_meaning.proofs.SoundRuns.{sound_given, sound_part, sound_work}
use Rattle.seq_table.specs.Table.{chunk_size, language}
use Rattle.seq_table.proofs.AlikeWhole.{like-rules_of}
use Rattle.seq_table.specs.World.{script_in, Comes, World, names_world, Read, cut, done, ◌▸◌, Begins, not_read, asked, at_end, element}
use Rattle.seq_table.proofs.ChunkedRows.{map_row, filter_row}
use Rattle.seq_table.proofs.JoinedRows.{joined_at, concat_row, mapcat_row}
use Rattle.seq_table.proofs.MoreRows.{keep_row, near_row}
use Rattle.seq_table.specs.Lists.{kept_cut, of_keep, of_near, has_keep, has_near, joined_cut, spread_cut, of_concat, of_mapcat, has_concat, has_mapcat, joins, each_cut, sifted_cut, of_map, of_filter, has_map, has_filter, ◌▸▸◌, CutOf, cut_here, cut_done, cut_later, taken_cut, while_cut, dropped_cut, until_cut, of_drop, of_drop_while, has_drop, has_drop_while, iterated_cut, repeated_cut, cycled_cut, Meant, of_take, of_take_while, of_next, of_repeat, of_cycle, InList, nothing_read, so_far, HasList, has_take, has_take_while, has_next, has_repeat, has_cycle, At, stops, shows, leads, is_rest, ShowsSound, PartsSound, Opens, RowOf}
use Rattle.seq_table.proofs.Replay.{comes_of, open_part}
use Rattle.seq_table.proofs.DropRows.{drop_row, drop_while_row}
use Rattle.seq_table.proofs.ListRows.{take_row, take_while_row, next_row, repeat_row, cycle_row}

module _ {C : Type 0} where
  before-append : (ys zs : List (Value C)) (l : Read C) → (ys ++ zs) ▸▸ l ≡ ys ▸▸ (zs ▸▸ l)
  before-append [] zs l = refl
  before-append (y ∷ ys) zs l = ap (λ m. y ▸ m) (before-append ys zs l)

  cut_refl : (l : Read C) → CutOf l l
  cut_refl cut = cut_here
  cut_refl done = cut_done
  cut_refl (x ▸ l) = cut_later (cut_refl l)

  cut_before : (ys : List (Value C)) {l l' : Read C} → CutOf l l' → CutOf (ys ▸▸ l) (ys ▸▸ l')
  cut_before [] h = h
  cut_before (y ∷ ys) h = cut_later (cut_before ys h)

  cut_at : (ys : List (Value C)) (l : Read C) → CutOf (ys ▸▸ cut) (ys ▸▸ l)
  cut_at ys l = cut_before ys cut_here

  cut_trans : {a b c : Read C} → CutOf a b → CutOf b c → CutOf a c
  cut_trans cut_here k = cut_here
  cut_trans cut_done k = k
  cut_trans (cut_later h) (cut_later k) = cut_later (cut_trans h k)

module _ {C : Type 0} (w : World C) where
  -- of each of the lists a part with nothing read stands; a line for each row
  begun : {defs : List (Value C)} {t : Term C} → HasList t → Meant w defs t cut
  begun has_map = of_map not_read each_cut
  begun has_filter = of_filter not_read sifted_cut
  begun has_concat = of_concat joined_cut
  begun has_mapcat = of_mapcat not_read spread_cut
  begun has_keep = of_keep not_read kept_cut
  begun has_near = of_near not_read
  begun has_take = of_take not_read taken_cut
  begun has_take_while = of_take_while not_read while_cut
  begun has_drop = of_drop not_read dropped_cut
  begun has_drop_while = of_drop_while not_read until_cut
  begun has_next = of_next iterated_cut
  begun has_repeat = of_repeat repeated_cut
  begun has_cycle = of_cycle not_read cycled_cut

  less : {defs : List (Value C)} {t : Term C} {l l' : Read C} → CutOf l l' → InList w defs t l' → InList w defs t l
  less cut_here nothing_read = nothing_read
  less h (so_far m k) = so_far m (cut_trans h k)

  cut_of : {defs : List (Value C)} {t : Term C} {ys : List (Value C)} {v : Value C} → At w defs t ys v → InList w defs t (ys ▸▸ cut)
  cut_of {ys = ys} (stops q m) = so_far m (cut_at ys done)
  cut_of {t = t} {ys = ys} (shows {s = s} q n a) = less (subst (λ x. CutOf (ys ▸▸ cut) x) (sym (before-append ys (first_of s ∷ []) cut)) (cut_at ys (first_of s ▸ cut))) (cut_of a)
  cut_of {ys = ys} (leads q' p i f) = so_far (f cut (begun i)) (cut_at ys cut)
  cut_of {ys = ys} (joins q' p p' i f) = so_far (f cut cut not_read (begun i)) (cut_at ys cut)
  cut_of {ys = ys} (is_rest f) = so_far (f cut not_read) (cut_at ys cut)

  -- the list of the next part is the rest of this one's
  lead_on : {defs es : List (Value C)} {t u : Term C} (ys : List (Value C)) {l : Read C} → HasList u → ((m : Read C) → Meant w es u m → Meant w defs t (ys ▸▸ m)) → InList w es u l → InList w defs t (ys ▸▸ l)
  lead_on ys i f nothing_read = so_far (f cut (begun i)) (cut_at ys cut)
  lead_on ys i f (so_far {l' = l'} k c) = so_far (f l' k) (cut_before ys c)

  first_sound : {x : Value C} {xs : List (Value C)} → SoundList (x ∷ xs) → Sound x
  first_sound (sound_item h k) = h

  module _ (opens : Opens w) (sound : ShowsSound w) (parts : PartsSound w) (concats : (es cs : List (Value C)) (v : Value C) → Comes w es (term_plan (script_in w es) (record { op = O.Concat; args = cs })) v → Comes w es (concat_rule 32 cs) v) (rows : (t : Term C) → HasList t → RowOf w t) where
    -- By induction on what is read: the elements, and the asks between them.
    pub listed : {v : Value C} {l : Read C} → Begins w v l → {defs : List (Value C)} {t : Term C} {ys : List (Value C)} → At w defs t ys v → InList w defs t (ys ▸▸ l)
    listed not_read a = cut_of a
    listed (at_end q) {ys = ys} (stops q' m) = so_far m (cut_refl (ys ▸▸ done))
    listed (at_end q) {ys = ys} (shows q' n a) = absurd (n (cc))
    listed (at_end q) (leads q' p i f) = absurd cc
    listed (at_end q) (joins q' p p' i f) = absurd cc
    listed (at_end q) {ys = ys} (is_rest f) = so_far (f done (at_end q)) (cut_refl (ys ▸▸ done))
    listed (element q n b) (stops q' m) = absurd (n (cc))
    listed (element {s = s} {l = l} q n b) {defs = ds} {t = t} {ys = ys} (shows {s = s'} q' n' a) =
        let e : s' ≡ s = cc in
        let a' : At w ds t (ys ++ first_of s ∷ []) (rest_of s) = subst (λ x. At w ds t (ys ++ first_of x ∷ []) (rest_of x)) e a in
        subst (λ x. InList w ds t x) (before-append ys (first_of s ∷ []) l) (listed b a')
    listed (element q n b) (leads q' p i f) = absurd cc
    listed (element q n b) (joins q' p p' i f) = absurd cc
    listed (element {s = s} {l = l} q n b) {ys = ys} (is_rest f) = so_far (f (first_of s ▸ l) (element q n b)) (cut_refl (ys ▸▸ (first_of s ▸ l)))
    listed (asked q s b) (stops q' m) = absurd cc
    listed (asked q s b) (shows q' n a) = absurd cc
    listed (asked {u = v} {c = d} {l = l} q s b) {defs = ds} {t = t} {ys = ys} (leads {es = es} {c = c} {kind = kind} {u = u} q' p i f) =
        let e : d ≡ c = cc in
        let k = opens c kind es u v p (subst (λ x. w.Shows x v) e s) in
        lead_on ys i f (listed b {ys = []} (rows u i (parts c kind es u p) es v k))
    listed (asked {u = v} {c = e} q s b) (joins {es = es} {d = d} {k = k} {m = m} {kind = kind} q' p p' i f) =
        let z : e ≡ k = cc in
        listed b (joined_at w sound (first_sound (parts k kind es _ p)) p' i f (concats es (d ∷ cell m ∷ []) v (opens k kind es _ v p (subst (λ x. w.Shows x v) z s))))
    listed (asked {l = l} q s b) {ys = ys} (is_rest f) = so_far (f l (asked q s b)) (cut_refl (ys ▸▸ l))

module _ (processors : ℕ) (program : Program) (limit : ℕ) where
  abbrev here : World Name
  here = names_world (language processors) program limit

  opens : Opens here
  opens n kind defs t v p g = comes_of (language processors) program limit n defs (of_term t) v g (open_part (language processors) program limit p)

  keeps : SoundRules {C = Name} (language processors)
  keeps = sound_rules (like-rules_of processors chunk_size)

  given_sound : ShowsSound here
  given_sound c v g = sound_given (language processors) program limit keeps g

  parts_sound : PartsSound here
  parts_sound c kind defs t p = (sound_part (language processors) program limit keeps p).1

  -- a line for each row
  row : (t : Term Name) → HasList t → RowOf here t
  row t (has_map {f = f} {c = c}) (sound_item g (sound_item h sound_end)) defs v d = map_row here defs given_sound f c h d
  row t (has_filter {p = p} {c = c}) (sound_item g (sound_item h sound_end)) defs v d = filter_row here defs given_sound p c h d
  row t (has_concat {cs = cs}) s defs v d = concat_row here given_sound cs s defs d
  row t (has_mapcat {f = f} {c = c}) s defs v d = mapcat_row here f c defs d
  row t (has_keep {f = f} {c = c}) (sound_item g (sound_item h sound_end)) defs v d = keep_row here defs given_sound f c h d
  row t (has_near {c = c} {a = a}) s defs v d = near_row here defs c a d
  row t (has_take {n = n} {c = c}) s defs v d = take_row here n c defs d
  row t (has_take_while {p = p} {c = c}) s defs v d = take_while_row here p c defs d
  row t (has_drop {n = n} {c = c}) s defs v d = drop_row processors program limit defs n c d
  row t (has_drop_while {p = p} {c = c}) s defs v d = drop_while_row processors program limit defs p c d
  row t (has_next {f = f} {x = x}) s defs v d = next_row here f x defs d
  row t (has_repeat {x = x}) s defs v d = repeat_row here x defs d
  row t (has_cycle {whole = whole} {c = c}) s defs v d = cycle_row here whole c defs d

  -- the elements of what an evaluation of a term gives are those of the term's list
  pub lists : (e : Name) (defs : List (Value Name)) (t : Term Name) (v : Value Name) (l : Read Name) → HasList t → Of (language processors) program limit e (work defs (of_term t)) → Gives (language processors) program limit e (gave v) → Begins here v l → InList here defs t l
  lists e defs t v l i o g b = listed here opens given_sound parts_sound (λ es cs v d. d) row b {ys = []} (row t i (sound_work (language processors) program limit keeps o).1 defs v (comes_of (language processors) program limit e defs (of_term t) v g o))
