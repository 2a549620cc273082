-- The list of a term is determined.
use Rattle.std.proofs.Common.{◌≡◌, refl, ℕ, ℤ, List, [], ◌∷◌}
use Rattle.seq_values.specs.Model.{Value, Term}
use Rattle.clj_script.specs.Trees.{Program}
use Rattle.seq_plan.specs.Plan.{Rules}
use Rattle.seq_plan.specs.Nodes.{is_truthy}
use Rattle.seq_plan.specs.Alike.{Likeness, Like, LikeList, like_item, like_end, LikeRules}
use Rattle.seq_plan.proofs.AlikeNodes.{like-first_of, like-rest_of, like-found}
use Rattle.seq_plan.proofs.AlikeTests.{like-is_truthy}
use Rattle.seq_meaning.specs.Names.{Name}
use Rattle.seq_meaning.proofs.AlikeWalk.{like-called}
use Rattle.seq_meaning.proofs.Twinned.{like_refl, like_list_refl}
use Rattle.seq_table.specs.World.{World, names_world, Read, CallTo, Begins, not_read, asked, at_end, element}
use Rattle.seq_table.specs.Lists.{KeptAnswers, kept_cut, kept_done, kept_in, kept_out, of_keep, of_near, has_keep, has_near, followed, CutOf, cut_here, cut_done, cut_later, Each, each_cut, each_done, each_more, Iterated, iterated_cut, iterated_more, Taken, taken_all, taken_cut, taken_done, taken_more, TakenWhile, while_cut, while_done, while_in, while_out, Sifted, sifted_cut, sifted_done, sifted_in, sifted_out, Dropped, dropped_cut, dropped_none, dropped_done, dropped_more, DroppedWhile, until_cut, until_done, until_in, until_out, Joined, joined_cut, joined_done, joined_more, Spread, spread_cut, spread_done, spread_more, Repeated, repeated_cut, repeated_more, Cycled, cycled_cut, cycled_more, cycled_again, cycled_none, Meant, of_map, of_next, of_take, of_take_while, of_filter, of_concat, of_mapcat, of_drop, of_drop_while, of_repeat, of_cycle, HasList, has_map, has_filter, has_mapcat, has_concat, has_take, has_take_while, has_drop, has_drop_while, has_next, has_repeat, has_cycle, InList, nothing_read, so_far}
use Rattle.seq_table.specs.Same.{same_cell, Same}
use Rattle.seq_table.specs.Agree.{Agree, first_cut, second_cut, both_done, both_more}
use Rattle.seq_table.proofs.SameCells.{shows_alike}
use Rattle.seq_table.proofs.OneCall.{both_now, both_ask, one_kind, other_kind, script_like, like_comes}
use Rattle.seq_table.proofs.PlainAlike.{nil_only, nil_left}

module _ (rules : Rules Name) (program : Program) (limit : ℕ) (renames : (R : Likeness Name Name) → LikeRules R rules rules) where
  abbrev w : World Name
  w = names_world rules program limit

  abbrev S : Likeness Name Name
  S = Same rules program limit

  itself : (v : Value Name) → Like S v v
  itself v = like_refl S refl (λ c. (0, same_cell)) v

  begins_agree : {v : Value Name} {l : Read Name} → Begins w v l → {u : Value Name} {l' : Read Name} → Begins w u l' → Like S v u → Agree S l l'
  begins_agree not_read b' h = first_cut
  begins_agree (asked q g b) not_read h = second_cut
  begins_agree (asked q g b) (asked q' g' b') h = begins_agree b b' (shows_alike rules program limit renames (both_ask rules program limit renames (like-found h) q q') g g')
  begins_agree (asked q g b) (at_end q') h = absurd (other_kind rules program limit renames (like-found h) q q')
  begins_agree (asked q g b) (element q' n b') h = absurd (other_kind rules program limit renames (like-found h) q q')
  begins_agree (at_end q) not_read h = second_cut
  begins_agree (at_end q) (at_end q') h = both_done
  begins_agree (at_end q) (element q' n b) h = absurd (n (nil_only rules program limit renames (both_now rules program limit renames (like-found h) q q')))
  begins_agree (at_end q) (asked q' g b) h = absurd (one_kind rules program limit renames (like-found h) q q')
  begins_agree (element q n b) not_read h = second_cut
  begins_agree (element q n b) (at_end q') h = absurd (n (nil_left rules program limit renames (both_now rules program limit renames (like-found h) q q')))
  begins_agree (element q n b) (element q' n' b') h = let k = both_now rules program limit renames (like-found h) q q' in both_more (like-first_of k) (begins_agree b b' (like-rest_of k))
  begins_agree (element q n b) (asked q' g b') h = absurd (one_kind rules program limit renames (like-found h) q q')

  cut_agree : {l l' k k' : Read Name} → CutOf k l → CutOf k' l' → Agree S l l' → Agree S k k'
  cut_agree cut_here c' a = first_cut
  cut_agree cut_done cut_here a = second_cut
  cut_agree (cut_later c) cut_here a = second_cut
  cut_agree cut_done cut_done a = both_done
  cut_agree (cut_later c) (cut_later c') (both_more x a) = both_more x (cut_agree c c' a)
  cut_agree cut_done (cut_later c') a = elim a [ ]
  cut_agree (cut_later c) cut_done a = elim a [ ]

  followed_agree : {l l' : Read Name} → Agree S l l' → {m m' : Read Name} → Agree S m m' → Agree S (followed l m) (followed l' m')
  followed_agree first_cut b = first_cut
  followed_agree second_cut b = second_cut
  followed_agree both_done b = b
  followed_agree (both_more x a) b = both_more x (followed_agree a b)

  module _ (ds : List (Value Name)) (f : Value Name) where
    call_like : {x x' y y' : Value Name} → CallTo w ds f (x ∷ []) y → CallTo w ds f (x' ∷ []) y' → Like S x x' → Like S y y'
    call_like c c' h =
        let r : LikeList S ds ds = like_list_refl S refl (λ c. (0, same_cell)) ds in
        like_comes rules program limit renames c (like-called (script_like rules program limit renames r) (itself f) (like_item h like_end)) r c'

    each_agree : {l l' m m' : Read Name} → Each w ds f l m → Each w ds f l' m' → Agree S l l' → Agree S m m'
    each_agree each_cut e' a = first_cut
    each_agree each_done each_cut a = second_cut
    each_agree (each_more c e) each_cut a = second_cut
    each_agree each_done each_done a = both_done
    each_agree (each_more c e) (each_more c' e') (both_more x a) = both_more (call_like c c' x) (each_agree e e' a)
    each_agree each_done (each_more c' e') a = elim a [ ]
    each_agree (each_more c e) each_done a = elim a [ ]

    iterated_agree : {x x' : Value Name} {l l' : Read Name} → Iterated w ds f x l → Iterated w ds f x' l' → Like S x x' → Agree S l l'
    iterated_agree iterated_cut e' h = first_cut
    iterated_agree (iterated_more c e) iterated_cut h = second_cut
    iterated_agree (iterated_more c e) (iterated_more c' e') h = let k = call_like c c' h in both_more k (iterated_agree e e' k)

    -- a call on like arguments gives true both times, or neither time
    true_alike : {x x' y y' : Value Name} → CallTo w ds f (x ∷ []) y → CallTo w ds f (x' ∷ []) y' → Like S x x' → is_truthy y ≡ is_truthy y'
    true_alike c c' h = like-is_truthy (call_like c c' h)

    sifted_agree : {l l' m m' : Read Name} → Sifted w ds f l m → Sifted w ds f l' m' → Agree S l l' → Agree S m m'
    sifted_agree sifted_cut e' a = first_cut
    sifted_agree (sifted_in c n e) (sifted_in c' n' e') (both_more x a) = both_more x (sifted_agree e e' a)
    sifted_agree (sifted_out c i e) (sifted_out c' i' e') (both_more x a) = sifted_agree e e' a
    sifted_agree (sifted_in c n e) (sifted_out c' i e') (both_more x a) = let z = true_alike c c' x in absurd cc
    sifted_agree (sifted_out c i e) (sifted_in c' n e') (both_more x a) = let z = true_alike c c' x in absurd cc
    sifted_agree e sifted_cut a = second_cut
    sifted_agree sifted_done sifted_done a = both_done
    sifted_agree sifted_done (sifted_in c n e) a = elim a [ ]
    sifted_agree sifted_done (sifted_out c n e) a = elim a [ ]
    sifted_agree (sifted_in c n e) sifted_done a = elim a [ ]
    sifted_agree (sifted_out c n e) sifted_done a = elim a [ ]

    kept_agree : {l l' m m' : Read Name} → KeptAnswers w ds f l m → KeptAnswers w ds f l' m' → Agree S l l' → Agree S m m'
    kept_agree kept_cut e' a = first_cut
    kept_agree (kept_in c n e) (kept_in c' n' e') (both_more x a) = both_more (call_like c c' x) (kept_agree e e' a)
    kept_agree (kept_out c e) (kept_out c' e') (both_more x a) = kept_agree e e' a
    kept_agree (kept_in c n e) (kept_out c' e') (both_more x a) = absurd (n (nil_left rules program limit renames (call_like c c' x)))
    kept_agree (kept_out c e) (kept_in c' n e') (both_more x a) = absurd (n (nil_only rules program limit renames (call_like c c' x)))
    kept_agree e kept_cut a = second_cut
    kept_agree kept_done kept_done a = both_done
    kept_agree kept_done (kept_in c n e) a = elim a [ ]
    kept_agree kept_done (kept_out c e) a = elim a [ ]
    kept_agree (kept_in c n e) kept_done a = elim a [ ]
    kept_agree (kept_out c e) kept_done a = elim a [ ]

    while_agree : {l l' m m' : Read Name} → TakenWhile w ds f l m → TakenWhile w ds f l' m' → Agree S l l' → Agree S m m'
    while_agree while_cut e' a = first_cut
    while_agree (while_in c n e) (while_in c' n' e') (both_more x a) = both_more x (while_agree e e' a)
    while_agree (while_out c n) (while_out c' n') a = both_done
    while_agree (while_in c n e) (while_out c' n') (both_more x a) = let z = true_alike c c' x in absurd cc
    while_agree (while_out c n) (while_in c' n' e') (both_more x a) = let z = true_alike c c' x in absurd cc
    while_agree e while_cut a = second_cut
    while_agree while_done while_done a = both_done
    while_agree while_done (while_in c n e) a = elim a [ ]
    while_agree while_done (while_out c n) a = elim a [ ]
    while_agree (while_in c n e) while_done a = elim a [ ]
    while_agree (while_out c n) while_done a = elim a [ ]

    until_agree : {l l' m m' : Read Name} → DroppedWhile w ds f l m → DroppedWhile w ds f l' m' → Agree S l l' → Agree S m m'
    until_agree until_cut e' a = first_cut
    until_agree (until_in c n e) (until_in c' n' e') (both_more x a) = until_agree e e' a
    until_agree (until_out c n) (until_out c' n') a = a
    until_agree (until_in c n e) (until_out c' n') (both_more x a) = let z = true_alike c c' x in absurd cc
    until_agree (until_out c n) (until_in c' n' e') (both_more x a) = let z = true_alike c c' x in absurd cc
    until_agree e until_cut a = second_cut
    until_agree until_done until_done a = both_done
    until_agree until_done (until_in c n e) a = elim a [ ]
    until_agree until_done (until_out c n) a = elim a [ ]
    until_agree (until_in c n e) until_done a = elim a [ ]
    until_agree (until_out c n) until_done a = elim a [ ]

    spread_agree : {l l' m m' : Read Name} → Spread w ds f l m → Spread w ds f l' m' → Agree S l l' → Agree S m m'
    spread_agree spread_cut e' a = first_cut
    spread_agree e spread_cut a = second_cut
    spread_agree spread_done spread_done a = both_done
    spread_agree (spread_more c b e) (spread_more c' b' e') (both_more x a) = followed_agree (begins_agree b b' (call_like c c' x)) (spread_agree e e' a)
    spread_agree spread_done (spread_more c b e) a = elim a [ ]
    spread_agree (spread_more c b e) spread_done a = elim a [ ]

  taken_agree : {n : ℤ} {l l' m m' : Read Name} → Taken n l m → Taken n l' m' → Agree S l l' → Agree S m m'
  taken_agree taken_cut e' a = first_cut
  taken_agree e taken_cut a = second_cut
  taken_agree (taken_all p) (taken_all q) a = both_done
  taken_agree (taken_all p) (taken_done q) a = absurd cc
  taken_agree (taken_all p) (taken_more q e) a = absurd cc
  taken_agree (taken_done p) (taken_all q) a = absurd cc
  taken_agree (taken_more p e) (taken_all q) a = absurd cc
  taken_agree (taken_done p) (taken_done q) a = both_done
  taken_agree (taken_more p e) (taken_more q e') (both_more x a) = both_more x (taken_agree e e' a)
  taken_agree (taken_done p) (taken_more q e') a = elim a [ ]
  taken_agree (taken_more p e) (taken_done q) a = elim a [ ]

  dropped_agree : {n : ℤ} {l l' m m' : Read Name} → Dropped n l m → Dropped n l' m' → Agree S l l' → Agree S m m'
  dropped_agree dropped_cut e' a = first_cut
  dropped_agree e dropped_cut a = second_cut
  dropped_agree (dropped_none p) (dropped_none q) a = a
  dropped_agree (dropped_none p) dropped_done a = a
  dropped_agree dropped_done (dropped_none q) a = a
  dropped_agree dropped_done dropped_done a = both_done
  dropped_agree (dropped_none p) (dropped_more q e) a = absurd cc
  dropped_agree (dropped_more p e) (dropped_none q) a = absurd cc
  dropped_agree (dropped_more p e) (dropped_more q e') (both_more x a) = dropped_agree e e' a
  dropped_agree dropped_done (dropped_more q e') a = elim a [ ]
  dropped_agree (dropped_more p e) dropped_done a = elim a [ ]

  joined_agree : {cs : List (Value Name)} {l l' : Read Name} → Joined w cs l → Joined w cs l' → Agree S l l'
  joined_agree joined_cut j' = first_cut
  joined_agree joined_done joined_cut = second_cut
  joined_agree joined_done joined_done = both_done
  joined_agree (joined_more b j) joined_cut = second_cut
  joined_agree (joined_more b j) (joined_more b' j') = followed_agree (begins_agree b b' (itself _)) (joined_agree j j')

  repeated_agree : {x : Value Name} {l l' : Read Name} → Repeated x l → Repeated x l' → Agree S l l'
  repeated_agree repeated_cut e' = first_cut
  repeated_agree (repeated_more e) repeated_cut = second_cut
  repeated_agree (repeated_more e) (repeated_more e') = both_more (itself _) (repeated_agree e e')

  cycled_agree : {whole : Value Name} {l l' m m' : Read Name} → Cycled w whole l m → Cycled w whole l' m' → Agree S l l' → Agree S m m'
  cycled_agree cycled_cut e' a = first_cut
  cycled_agree e cycled_cut a = second_cut
  cycled_agree (cycled_more e) (cycled_more e') (both_more x a) = both_more x (cycled_agree e e' a)
  cycled_agree (cycled_more e) (cycled_again b e') a = elim a [ ]
  cycled_agree (cycled_more e) (cycled_none b) a = elim a [ ]
  cycled_agree (cycled_again b e) (cycled_more e') a = elim a [ ]
  cycled_agree (cycled_none b) (cycled_more e') a = elim a [ ]
  cycled_agree {whole = whole} (cycled_again b e) (cycled_again b' e') a = cycled_agree e e' (begins_agree b b' (itself whole))
  cycled_agree {whole = whole} (cycled_again b e) (cycled_none b') a = elim (begins_agree b b' (itself whole)) [ ]
  cycled_agree {whole = whole} (cycled_none b) (cycled_again b' e') a = elim (begins_agree b b' (itself whole)) [ ]
  cycled_agree (cycled_none b) (cycled_none b') a = both_done

  meant_agree : {ds : List (Value Name)} {t : Term Name} {l l' : Read Name} → HasList t → Meant w ds t l → Meant w ds t l' → Agree S l l'
  meant_agree {ds = ds} has_map (of_map {f = f} {c = c} b e) (of_map b' e') = each_agree ds f e e' (begins_agree b b' (itself c))
  meant_agree {ds = ds} has_filter (of_filter {p = f} {c = c} b e) (of_filter b' e') = sifted_agree ds f e e' (begins_agree b b' (itself c))
  meant_agree {ds = ds} has_mapcat (of_mapcat {f = f} {c = c} b e) (of_mapcat b' e') = spread_agree ds f e e' (begins_agree b b' (itself c))
  meant_agree has_concat (of_concat j) (of_concat j') = joined_agree j j'
  meant_agree {ds = ds} has_keep (of_keep {f = f} {c = c} b e) (of_keep b' e') = kept_agree ds f e e' (begins_agree b b' (itself c))
  meant_agree has_near (of_near {c = c} b) (of_near b') = begins_agree b b' (itself c)
  meant_agree has_take (of_take {c = c} b e) (of_take b' e') = taken_agree e e' (begins_agree b b' (itself c))
  meant_agree {ds = ds} has_take_while (of_take_while {p = f} {c = c} b e) (of_take_while b' e') = while_agree ds f e e' (begins_agree b b' (itself c))
  meant_agree has_drop (of_drop {c = c} b e) (of_drop b' e') = dropped_agree e e' (begins_agree b b' (itself c))
  meant_agree {ds = ds} has_drop_while (of_drop_while {p = f} {c = c} b e) (of_drop_while b' e') = until_agree ds f e e' (begins_agree b b' (itself c))
  meant_agree {ds = ds} has_next (of_next {f = f} {x = x} e) (of_next e') = iterated_agree ds f e e' (itself x)
  meant_agree has_repeat (of_repeat e) (of_repeat e') = repeated_agree e e'
  meant_agree has_cycle (of_cycle {c = c} b e) (of_cycle b' e') = cycled_agree e e' (begins_agree b b' (itself c))

  pub one_list : {ds : List (Value Name)} {t : Term Name} {l l' : Read Name} → HasList t → InList w ds t l → InList w ds t l' → Agree S l l'
  one_list i nothing_read h = first_cut
  one_list i (so_far m c) nothing_read = second_cut
  one_list i (so_far m c) (so_far m' c') = cut_agree c c' (meant_agree i m m')
