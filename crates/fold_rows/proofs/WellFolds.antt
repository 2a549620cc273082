-- The rows of reducer values and of `fold` keep to well-formed values.
use Rattle.std.proofs.Common.{◌≡◌, ℕ, zero, suc, ◌≤◌, ◌/◌, max, nat_le, ℤ, pos, int_le, int_lt, true, List, [], ◌∷◌, ◌++◌, length, take, drop, refl, ap, ◌∙◌, arith}
use Rattle.std.proofs.lemmas.Int.{ints}
use Rattle.seq_values.specs.WellFormed.{binds}
use Rattle.seq_values.specs.WellFormedTerms.{takes, is_fold_stage, are_fold_stages}
use Rattle.seq_values.specs.declared.words.Builtin.{Builtin}
use Rattle.seq_values.specs.declared.words.Builtin.TheVariants as B
use Rattle.seq_values.specs.declared.words.FolderKind.{FolderKind}
use Rattle.seq_values.specs.declared.words.FolderKind.TheVariants as F
use Rattle.seq_values.specs.declared.words.Op.TheVariants as O
use Rattle.seq_values.specs.declared.words.Target.TheVariants as T
use Rattle.seq_values.specs.Model.{Value, vector, function, Values, no_values, ◌&◌, list, values}
use Rattle.seq_plan.specs.Plan.{Plan}
use Rattle.seq_plan.specs.Nodes.{deepest, depth, depths}
use Rattle.seq_plan.specs.WellFormed.{sight, sights, Shallow, Well, well_nil, well_int, well_vector, well_function, well_none, well_more, WellList, well_end, well_item, well_term}
use Rattle.seq_plan.specs.Keeping.{Stage, of_transducer, of_take, Keeps, keeps_ask, keeps_call, keeps_make, keeps_give, keeps_throw, well_reduces}
use Rattle.seq_plan.proofs.FitLemmas.{both, first_of_both, second_of_both}
use Rattle.seq_plan.proofs.ShallowLemmas.{below}
use Rattle.seq_plan.proofs.WellNodes.{well-list, well-values, well-take, well-drop, keeps-either, keeps-cond, keeps-give_value}
use Rattle.seq_plan.proofs.WellStages.{AreStages, stages_end, stages_item, are_appended, begin_staged, keeps-enter_each, well-answer_of}
use Rattle.fold_rows.specs.Table.{bottom, reducer_stage, reducer_stages, reduce_through, reduce_rule, can_split, items_of, fold_group, fold_at_most, fold_items, fold_rule, fold_term, take_of, fold_in, fold_call}

one_of_two : (f c : ℕ) → suc (max f 0) ≤ suc (max f c)
one_of_two f c = omega arith

above : (n : ℤ) → int_le (pos 1) n ≡ true → int_lt (pos 0) n ≡ true
above n h = grind (arith, ints)

right_more : {a b : ℕ} (c : ℕ) → a ≤ b → a ≤ max c b
right_more c h = omega (arith, h)

both_more : {a b : ℕ} (c : ℕ) → a ≤ b → max c a ≤ max c b
both_more c h = omega (arith, h)

one_deeper : {a b : ℕ} → a ≤ b → suc a ≤ suc b
one_deeper h = omega (arith, h)

none_deep : (n : ℕ) → 0 ≤ n
none_deep n = omega arith

le_same : (n : ℕ) → n ≤ n
le_same n = omega arith

module _ {C : Type 0} where
  -- ## Some of the items

  taken : (n : ℕ) (xs : List (Value C)) → depths (values (take n xs)) ≤ depths (values xs)
  taken zero xs = none_deep _
  taken (suc n) [] = none_deep _
  taken (suc n) (x ∷ xs) = both_more (depth x) (taken n xs)

  dropped : (n : ℕ) (xs : List (Value C)) → depths (values (drop n xs)) ≤ depths (values xs)
  dropped zero xs = le_same _
  dropped (suc n) [] = none_deep _
  dropped (suc n) (x ∷ xs) = right_more (depth x) (dropped n xs)

  fewer_taken : (n : ℕ) (xs : List (Value C)) → Shallow (vector (values xs)) → Shallow (vector (values (take n xs)))
  fewer_taken n xs d = below deepest (one_deeper (taken n xs)) d

  fewer_dropped : (n : ℕ) (xs : List (Value C)) → Shallow (vector (values xs)) → Shallow (vector (values (drop n xs)))
  fewer_dropped n xs d = below deepest (one_deeper (dropped n xs)) d

  values_list : (xs : Values C) → values (list xs) ≡ xs
  values_list no_values = refl
  values_list (x & xs) = ap (λ l. x & l) (values_list xs)

  -- ## Reducer values

  well-bottom : {v : Value C} → Well v → Well (bottom v)
  well-bottom (well_function {t = T.Folder kind} b d (well_more f (well_more c well_none))) = well-bottom c
  well-bottom well_nil = well_nil
  well-bottom h = h

  -- the stage of a reducer value
  stage_of : (kind : FolderKind) {f : Value C} (c : Value C) → binds (T.Folder kind) (sight f ∷ sight c ∷ []) ≡ true → Shallow (function (T.Folder kind) (f & c & no_values)) → Well f → Stage (reducer_stage kind f)
  stage_of F.Map {f = f} c b d h = of_transducer (well_function refl (below deepest (one_of_two (depth f) (max (depth c) 0)) d) (well_more h well_none))
  stage_of F.Filter {f = f} c b d h = of_transducer (well_function refl (below deepest (one_of_two (depth f) (max (depth c) 0)) d) (well_more h well_none))
  stage_of F.Remove {f = f} c b d h = of_transducer (well_function refl (below deepest (one_of_two (depth f) (max (depth c) 0)) d) (well_more h well_none))
  stage_of F.Mapcat {f = f} c b d h = of_transducer (well_function refl (below deepest (one_of_two (depth f) (max (depth c) 0)) d) (well_more h well_none))
  stage_of F.TakeWhile {f = f} c b d h = of_transducer (well_function refl (below deepest (one_of_two (depth f) (max (depth c) 0)) d) (well_more h well_none))
  stage_of F.Take c b d well_int = of_take
  stage_of F.Take c b d _ = absurd cc

  are_reducer_stages : {v : Value C} → Well v → AreStages (reducer_stages v)
  are_reducer_stages (well_function {t = T.Folder kind} b d (well_more f (well_more c well_none))) = are_appended (are_reducer_stages c) (stages_item (stage_of kind _ b d f) stages_end)
  are_reducer_stages _ = stages_end

  keeps-reduce_through : {stages : List (Value C)} → AreStages stages → {f init c : Value C} → Well f → Well init → Well c → {k : Value C → Plan C} → ((v : Value C) → Well v → Keeps Well (k v)) → Keeps Well (reduce_through stages f init c k)
  keeps-reduce_through st f i c e = keeps-enter_each (begin_staged st) (well_reduces f i) c (λ states st' sink ws done. e _ (well-answer_of ws))

  keeps-reduce_rule : {f init c : Value C} → Well f → Well init → Well c → Keeps Well (reduce_rule f init c)
  keeps-reduce_rule f i c = keeps-reduce_through (are_reducer_stages c) f i (well-bottom c) (λ v w. keeps_give w)

  -- ## Stages of a fold that can be split

  data FoldStages : List (Value C) → Type 0 where
    fold_end : FoldStages []
    fold_item : {stage : Value C} {stages : List (Value C)} → Well stage → is_fold_stage (sight stage) ≡ true → FoldStages stages → FoldStages (stage ∷ stages)

  folds_appended : {fs gs : List (Value C)} → FoldStages fs → FoldStages gs → FoldStages (fs ++ gs)
  folds_appended fold_end h = h
  folds_appended (fold_item p e q) h = fold_item p e (folds_appended q h)

  fold_list : {stages : List (Value C)} → FoldStages stages → WellList stages
  fold_list fold_end = well_end
  fold_list (fold_item p e q) = well_item p (fold_list q)

  fold_seen : {stages : List (Value C)} → FoldStages stages → are_fold_stages (sights (values stages)) ≡ true
  fold_seen fold_end = refl
  fold_seen (fold_item p e q) = both e (fold_seen q)

  of_fold_stage : {stage : Value C} → Well stage → is_fold_stage (sight stage) ≡ true → Stage stage
  of_fold_stage (well_function {t = T.Xf kind} b d h) e = of_transducer (well_function b d h)
  of_fold_stage _ e = absurd cc

  fold_are : {stages : List (Value C)} → FoldStages stages → AreStages stages
  fold_are fold_end = stages_end
  fold_are (fold_item p e q) = stages_item (of_fold_stage p e) (fold_are q)

  of_seen : {stages : List (Value C)} → WellList stages → are_fold_stages (sights (values stages)) ≡ true → FoldStages stages
  of_seen well_end e = fold_end
  of_seen (well_item {x = stage} p q) e = fold_item p (first_of_both (is_fold_stage (sight stage)) _ e) (of_seen q (second_of_both (is_fold_stage (sight stage)) _ e))

  one_stage : {stage : Value C} → Well stage → is_fold_stage (sight stage) ≡ true → FoldStages (stage ∷ [])
  one_stage w e = fold_item w e fold_end

  split_stages : {v : Value C} → Well v → can_split v ≡ true → FoldStages (reducer_stages v)
  split_stages (well_function {t = T.Folder F.Map} b d (well_more {x = f} h (well_more {x = c} w well_none))) e = folds_appended (split_stages w e) (one_stage (well_function refl (below deepest (one_of_two (depth f) (max (depth c) 0)) d) (well_more h well_none)) refl)
  split_stages (well_function {t = T.Folder F.Filter} b d (well_more {x = f} h (well_more {x = c} w well_none))) e = folds_appended (split_stages w e) (one_stage (well_function refl (below deepest (one_of_two (depth f) (max (depth c) 0)) d) (well_more h well_none)) refl)
  split_stages (well_function {t = T.Folder F.Remove} b d (well_more {x = f} h (well_more {x = c} w well_none))) e = folds_appended (split_stages w e) (one_stage (well_function refl (below deepest (one_of_two (depth f) (max (depth c) 0)) d) (well_more h well_none)) refl)
  split_stages (well_function {t = T.Folder F.Mapcat} b d (well_more {x = f} h (well_more {x = c} w well_none))) e = folds_appended (split_stages w e) (one_stage (well_function refl (below deepest (one_of_two (depth f) (max (depth c) 0)) d) (well_more h well_none)) refl)
  split_stages (well_vector d h) e = fold_end
  split_stages _ e = absurd cc

  items_well : {v : Value C} → Well v → WellList (items_of v) × Shallow (vector (values (items_of v)))
  items_well (well_vector {xs = xs} d h) = (well-list h, ap (λ l. nat_le (depth (vector l)) deepest) (values_list xs) ∙ d)
  items_well well_nil = (well_end, refl)
  items_well _ = (well_end, refl)

  -- ## fold

  keeps-fold_group : {f r : Value C} → Well f → Well r → {stages : List (Value C)} → FoldStages stages → {items : List (Value C)} → WellList items → Shallow (vector (values items)) → {k : Value C → Plan C} → ((v : Value C) → Well v → Keeps Well (k v)) → Keeps Well (fold_group f r stages items k)
  keeps-fold_group f r st well_end d e = keeps_call f well_end e
  keeps-fold_group f r st (well_item p q) d e = keeps_call f well_end (λ v w. keeps-reduce_through (fold_are st) r w (well_vector d (well-values (well_item p q))) e)

  keeps-fold_at_most : (times : ℕ) (size : ℤ) → int_lt (pos 0) size ≡ true → {f r : Value C} → Well f → Well r → {stages : List (Value C)} → FoldStages stages → {items : List (Value C)} → WellList items → Shallow (vector (values items)) → {k : Value C → Plan C} → ((v : Value C) → Well v → Keeps Well (k v)) → Keeps Well (fold_at_most times size f r stages items k)
  keeps-fold_at_most zero size b f r st h d e = keeps-fold_group f r st h d e
  keeps-fold_at_most (suc times) size b f r st {items = items} h d e =
      let half = length items / 2 in
      keeps-either (int_le (pos (length items)) size)
      (keeps-fold_group f r st h d e)
      (keeps_make (well_term (well_item (well_vector (fewer_dropped half items d) (well-values (well-drop half h))) (well_item well_int (well_item f (well_item r (fold_list st))))) (both b (fold_seen st))) (λ m.
      keeps-fold_at_most times size b f r st (well-take half h) (fewer_taken half items d) (λ v w. keeps_ask (λ u q. keeps_call f (well_item w (well_item q well_end)) e))))

  keeps-fold_items : (size : ℤ) → int_lt (pos 0) size ≡ true → {f r : Value C} → Well f → Well r → {stages : List (Value C)} → FoldStages stages → {items : List (Value C)} → WellList items → Shallow (vector (values items)) → {k : Value C → Plan C} → ((v : Value C) → Well v → Keeps Well (k v)) → Keeps Well (fold_items size f r stages items k)
  keeps-fold_items size b f r st {items = items} h d e = keeps-fold_at_most (length items) size b f r st h d e

  keeps-fold_rule : (size : ℤ) → int_lt (pos 0) size ≡ true → {f r c : Value C} → Well f → Well r → Well c → Keeps Well (fold_rule size f r c)
  keeps-fold_rule size b {c = c} f r h =
      let items = items_well (well-bottom h) in
      keeps-cond (can_split c)
      (λ e. keeps-fold_items size b f r (split_stages h e) items.0 items.1 (λ v w. keeps_give w))
      (λ e. keeps_call f well_end (λ v w. keeps-reduce_rule r w h))

  pub keeps-fold_term : {xs : List (Value C)} → WellList xs → takes O.Fold (sights (values xs)) ≡ true → Keeps Well (fold_term xs)
  keeps-fold_term (well_item (well_vector {xs = items} d h) (well_item (well_int {n = size}) (well_item f (well_item r st)))) t =
      keeps-fold_items size (first_of_both (int_lt (pos 0) size) _ t) f r (of_seen st (second_of_both (int_lt (pos 0) size) _ t)) (well-list h) (ap (λ l. nat_le (depth (vector l)) deepest) (values_list items) ∙ d) (λ v w. keeps_give w)
  keeps-fold_term _ t = keeps_throw

  -- ## The words

  keeps-take_of : {n c : Value C} → Well n → Well c → Keeps Well (take_of n c)
  keeps-take_of well_int c = keeps-give_value (λ d. well_function refl d (well_more well_int (well_more c well_none)))
  keeps-take_of _ c = keeps_throw

  keeps-fold_in : {n f r c : Value C} → Well n → Well f → Well r → Well c → Keeps Well (fold_in n f r c)
  keeps-fold_in (well_int {n = n}) f r c = keeps-cond (int_le (pos 1) n) (λ e. keeps-fold_rule n (above n e) f r c) (λ e. keeps_throw)
  keeps-fold_in _ f r c = keeps_throw

  pub keeps-fold_call : (word : Builtin) {xs : List (Value C)} → WellList xs → Keeps Well (fold_call word xs)
  keeps-fold_call B.ReducerMap (well_item f (well_item c well_end)) = keeps-give_value (λ d. well_function refl d (well_more f (well_more c well_none)))
  keeps-fold_call B.ReducerFilter (well_item f (well_item c well_end)) = keeps-give_value (λ d. well_function refl d (well_more f (well_more c well_none)))
  keeps-fold_call B.ReducerRemove (well_item f (well_item c well_end)) = keeps-give_value (λ d. well_function refl d (well_more f (well_more c well_none)))
  keeps-fold_call B.ReducerMapcat (well_item f (well_item c well_end)) = keeps-give_value (λ d. well_function refl d (well_more f (well_more c well_none)))
  keeps-fold_call B.ReducerTake (well_item n (well_item c well_end)) = keeps-take_of n c
  keeps-fold_call B.ReducerTakeWhile (well_item f (well_item c well_end)) = keeps-give_value (λ d. well_function refl d (well_more f (well_more c well_none)))
  keeps-fold_call B.Reduce (well_item f (well_item c well_end)) = keeps_call f well_end (λ v w. keeps-reduce_rule f w c)
  keeps-fold_call B.Reduce (well_item f (well_item i (well_item c well_end))) = keeps-reduce_rule f i c
  keeps-fold_call B.Into (well_item to (well_item c well_end)) = keeps-reduce_rule (well_function refl refl well_none) to c
  keeps-fold_call B.Fold (well_item f (well_item c well_end)) = keeps-fold_rule (pos 512) refl f f c
  keeps-fold_call B.Fold (well_item f (well_item r (well_item c well_end))) = keeps-fold_rule (pos 512) refl f r c
  keeps-fold_call B.Fold (well_item n (well_item f (well_item r (well_item c well_end)))) = keeps-fold_in n f r c
  keeps-fold_call _ _ = keeps_throw
