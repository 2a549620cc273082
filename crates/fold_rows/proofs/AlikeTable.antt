-- The rows look at cells only to ask them.
use Rattle.std.proofs.Common.{◌≡◌, ℕ, zero, suc, ◌/◌, ℤ, pos, int_le, List, length, refl}
use Rattle.seq_values.specs.declared.words.Builtin.{Builtin}
use Rattle.seq_values.specs.declared.words.Builtin.TheVariants as B
use Rattle.seq_values.specs.declared.words.FolderKind.{FolderKind}
use Rattle.seq_values.specs.declared.words.FolderKind.TheVariants as F
use Rattle.seq_values.specs.declared.words.Target.TheVariants as T
use Rattle.seq_values.specs.Model.{Value}
use Rattle.seq_plan.specs.Plan.{Plan}
use Rattle.seq_plan.specs.Alike.{Likeness, Like, like_int, like_vector, like_function, like_none, like_more, LikeList, like_end, like_item, like_term, LikePlan, like_ask, like_call, like_make, like_give, like_throw}
use Rattle.seq_plan.proofs.AlikeNodes.{like-list, like-values, like-append, like-length, like-take, like-drop, like-cond, like-give_value}
use Rattle.seq_plan.proofs.AlikeStages.{like_reduces, like-fresh, like-answer_of, like-enter_each}
use Rattle.seq_plan.specs.Nodes.{give_value}
use Rattle.fold_rows.specs.Table.{reducer, bottom, reducer_stage, reducer_stages, reduce_through, reduce_rule, can_split, items_of, fold_group, fold_at_most, fold_items, fold_rule, fold_term, take_of, fold_in, fold_call}

module _ {C D : Type 0} {R : Likeness C D} where
  like-bottom : {v : Value C} {w : Value D} → Like R v w → Like R (bottom v) (bottom w)
  like-bottom (like_function {t = T.Folder kind} (like_more f (like_more c like_none))) = like-bottom c
  like-bottom h = h

  like-reducer_stage : (kind : FolderKind) {v : Value C} {w : Value D} → Like R v w → Like R (reducer_stage kind v) (reducer_stage kind w)
  like-reducer_stage F.Map h = like_function (like_more h like_none)
  like-reducer_stage F.Filter h = like_function (like_more h like_none)
  like-reducer_stage F.Remove h = like_function (like_more h like_none)
  like-reducer_stage F.Mapcat h = like_function (like_more h like_none)
  like-reducer_stage F.TakeWhile h = like_function (like_more h like_none)
  like-reducer_stage F.Take h = like_function (like_more h like_none)

  like-reducer_stages : {v : Value C} {w : Value D} → Like R v w → LikeList R (reducer_stages v) (reducer_stages w)
  like-reducer_stages (like_function {t = T.Folder kind} (like_more f (like_more c like_none))) = like-append (like-reducer_stages c) (like_item (like-reducer_stage kind f) like_end)
  like-reducer_stages _ = like_end

  like-reduce_through : {xs : List (Value C)} {ys : List (Value D)} → LikeList R xs ys → {f : Value C} {g : Value D} → Like R f g → {i : Value C} {j : Value D} → Like R i j → {c : Value C} {d : Value D} → Like R c d → {k : Value C → Plan C} {h : Value D → Plan D} → ((v : Value C) (w : Value D) → Like R v w → LikePlan R (k v) (h w)) → LikePlan R (reduce_through xs f i c k) (reduce_through ys g j d h)
  like-reduce_through p f i c e = like-enter_each p (like-fresh p) (like_reduces f i) c (λ us vs q s t r done. e _ _ (like-answer_of r))

  like-reduce_rule : {f : Value C} {g : Value D} → Like R f g → {i : Value C} {j : Value D} → Like R i j → {c : Value C} {d : Value D} → Like R c d → LikePlan R (reduce_rule f i c) (reduce_rule g j d)
  like-reduce_rule f i c = like-reduce_through (like-reducer_stages c) f i (like-bottom c) (λ v w e. like_give e)

  like-can_split : {v : Value C} {w : Value D} → Like R v w → can_split v ≡ can_split w
  like-can_split (like_function {t = T.Folder F.Map} (like_more f (like_more c like_none))) = like-can_split c
  like-can_split (like_function {t = T.Folder F.Filter} (like_more f (like_more c like_none))) = like-can_split c
  like-can_split (like_function {t = T.Folder F.Remove} (like_more f (like_more c like_none))) = like-can_split c
  like-can_split (like_function {t = T.Folder F.Mapcat} (like_more f (like_more c like_none))) = like-can_split c
  like-can_split _ = refl

  like-items_of : {v : Value C} {w : Value D} → Like R v w → LikeList R (items_of v) (items_of w)
  like-items_of (like_vector h) = like-list h
  like-items_of _ = like_end

  like-fold_group : {f : Value C} {g : Value D} → Like R f g → {r : Value C} {s : Value D} → Like R r s → {us : List (Value C)} {vs : List (Value D)} → LikeList R us vs → {xs : List (Value C)} {ys : List (Value D)} → LikeList R xs ys → {k : Value C → Plan C} {h : Value D → Plan D} → ((v : Value C) (w : Value D) → Like R v w → LikePlan R (k v) (h w)) → LikePlan R (fold_group f r us xs k) (fold_group g s vs ys h)
  like-fold_group f r st like_end e = like_call f like_end e
  like-fold_group f r st (like_item p q) e = like_call f like_end (λ v w i. like-reduce_through st r i (like_vector (like-values (like_item p q))) e)

  like-fold_at_most : (times : ℕ) (size : ℤ) {f : Value C} {g : Value D} → Like R f g → {r : Value C} {s : Value D} → Like R r s → {us : List (Value C)} {vs : List (Value D)} → LikeList R us vs → {xs : List (Value C)} {ys : List (Value D)} → LikeList R xs ys → {k : Value C → Plan C} {h : Value D → Plan D} → ((v : Value C) (w : Value D) → Like R v w → LikePlan R (k v) (h w)) → LikePlan R (fold_at_most times size f r us xs k) (fold_at_most times size g s vs ys h)
  like-fold_at_most zero size f r st q e = like-fold_group f r st q e
  like-fold_at_most (suc times) size f r st {xs = xs} {ys = ys} q e =
      let same : length xs ≡ length ys = like-length q in
      rw (← same) (like-cond (int_le (pos (length xs)) size)
      (like-fold_group f r st q e)
      (like_make (like_term (like_item (like_vector (like-values (like-drop (length xs / 2) q))) (like_item like_int (like_item f (like_item r st))))) (λ m n c.
      like-fold_at_most times size f r st (like-take (length xs / 2) q) (λ v w a. like_ask c (λ v w b. like_call f (like_item a (like_item b like_end)) e)))))

  like-fold_items : (size : ℤ) {f : Value C} {g : Value D} → Like R f g → {r : Value C} {s : Value D} → Like R r s → {us : List (Value C)} {vs : List (Value D)} → LikeList R us vs → {xs : List (Value C)} {ys : List (Value D)} → LikeList R xs ys → {k : Value C → Plan C} {h : Value D → Plan D} → ((v : Value C) (w : Value D) → Like R v w → LikePlan R (k v) (h w)) → LikePlan R (fold_items size f r us xs k) (fold_items size g s vs ys h)
  like-fold_items size f r st {xs = xs} {ys = ys} q e =
      let same : length xs ≡ length ys = like-length q in
      rw (← same) (like-fold_at_most (length xs) size f r st q e)

  like-fold_rule : (size : ℤ) {f : Value C} {g : Value D} → Like R f g → {r : Value C} {s : Value D} → Like R r s → {c : Value C} {d : Value D} → Like R c d → LikePlan R (fold_rule size f r c) (fold_rule size g s d)
  like-fold_rule size f r {c = c} {d = d} h =
      let same : can_split c ≡ can_split d = like-can_split h in
      rw (← same) (like-cond (can_split c)
      (like-fold_items size f r (like-reducer_stages h) (like-items_of (like-bottom h)) (λ v w e. like_give e))
      (like_call f like_end (λ v w i. like-reduce_rule r i h)))

  pub like-fold_term : {xs : List (Value C)} {ys : List (Value D)} → LikeList R xs ys → LikePlan R (fold_term xs) (fold_term ys)
  like-fold_term (like_item (like_vector items) (like_item (like_int {n = size}) (like_item f (like_item r st)))) = like-fold_items size f r st (like-list items) (λ v w e. like_give e)
  like-fold_term _ = like_throw

  like-reducer_call : (kind : FolderKind) {f : Value C} {g : Value D} → Like R f g → {c : Value C} {d : Value D} → Like R c d → LikePlan R (give_value (reducer kind f c)) (give_value (reducer kind g d))
  like-reducer_call kind f c = like-give_value (like_function (like_more f (like_more c like_none)))

  like-take_of : {n : Value C} {m : Value D} → Like R n m → {c : Value C} {d : Value D} → Like R c d → LikePlan R (take_of n c) (take_of m d)
  like-take_of like_int c = like-reducer_call F.Take like_int c
  like-take_of _ c = like_throw

  like-fold_in : {n : Value C} {m : Value D} → Like R n m → {f : Value C} {g : Value D} → Like R f g → {r : Value C} {s : Value D} → Like R r s → {c : Value C} {d : Value D} → Like R c d → LikePlan R (fold_in n f r c) (fold_in m g s d)
  like-fold_in (like_int {n = n}) f r c = like-cond (int_le (pos 1) n) (like-fold_rule n f r c) like_throw
  like-fold_in _ f r c = like_throw

  pub like-fold_call : (word : Builtin) {xs : List (Value C)} {ys : List (Value D)} → LikeList R xs ys → LikePlan R (fold_call word xs) (fold_call word ys)
  like-fold_call B.ReducerMap (like_item f (like_item c like_end)) = like-reducer_call F.Map f c
  like-fold_call B.ReducerFilter (like_item f (like_item c like_end)) = like-reducer_call F.Filter f c
  like-fold_call B.ReducerRemove (like_item f (like_item c like_end)) = like-reducer_call F.Remove f c
  like-fold_call B.ReducerMapcat (like_item f (like_item c like_end)) = like-reducer_call F.Mapcat f c
  like-fold_call B.ReducerTake (like_item n (like_item c like_end)) = like-take_of n c
  like-fold_call B.ReducerTakeWhile (like_item f (like_item c like_end)) = like-reducer_call F.TakeWhile f c
  like-fold_call B.Reduce (like_item f (like_item c like_end)) = like_call f like_end (λ v w i. like-reduce_rule f i c)
  like-fold_call B.Reduce (like_item f (like_item i (like_item c like_end))) = like-reduce_rule f i c
  like-fold_call B.Into (like_item to (like_item c like_end)) = like-reduce_rule (like_function like_none) to c
  like-fold_call B.Fold (like_item f (like_item c like_end)) = like-fold_rule (pos 512) f f c
  like-fold_call B.Fold (like_item f (like_item r (like_item c like_end))) = like-fold_rule (pos 512) f r c
  like-fold_call B.Fold (like_item n (like_item f (like_item r (like_item c like_end)))) = like-fold_in n f r c
  like-fold_call _ _ = like_throw
