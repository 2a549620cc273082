-- The calls of lazy operations look at cells only to ask them.
use Rattle.std.proofs.Common.{pos, List, refl}
use Rattle.seq_values.specs.declared.words.Op.{Op}
use Rattle.seq_values.specs.declared.words.Op.TheVariants as O
use Rattle.seq_values.specs.declared.words.Target.TheVariants as T
use Rattle.seq_values.specs.declared.words.XfKind.{XfKind}
use Rattle.seq_values.specs.declared.words.XfKind.TheVariants as X
use Rattle.seq_values.specs.Model.{Value}
use Rattle.seq_plan.specs.Alike.{Likeness, Like, like_int, like_function, like_cell, like_none, like_more, LikeList, like_end, like_item, like_term, LikePlan, like_make, like_give, like_throw}
use Rattle.seq_plan.proofs.FitLemmas.{le_itself}
use Rattle.seq_plan.proofs.AlikeNodes.{like-values, like-range_at, like-with_value, like-give_value}
use Rattle.seq_plan.proofs.AlikeLists.{like-lazily, like-first_and, like-at_least_one}
use Rattle.lazy_rows.specs.Calls.{give_stage, with_function, map_call, remove_call, with_count, partition_call, iterate_rule, iterate_call, range_call, repeat_call, cycle_call}

module _ {C D : Type 0} {R : Likeness C D} where
  like-give_stage : (kind : XfKind) {xs : List (Value C)} {ys : List (Value D)} → LikeList R xs ys → LikePlan R (give_stage kind xs) (give_stage kind ys)
  like-give_stage kind h = like-give_value (like_function {t = T.Xf kind} (like-values h))

  pub like-with_function : (op : Op) (kind : XfKind) {xs : List (Value C)} {ys : List (Value D)} → LikeList R xs ys → LikePlan R (with_function op kind xs) (with_function op kind ys)
  like-with_function op kind (like_item f like_end) = like-give_stage kind (like_item f like_end)
  like-with_function op kind (like_item f (like_item c like_end)) = like-lazily op (like_item f (like_item c like_end))
  like-with_function op kind _ = like_throw

  pub like-map_call : {xs : List (Value C)} {ys : List (Value D)} → LikeList R xs ys → LikePlan R (map_call xs) (map_call ys)
  like-map_call like_end = like_throw
  like-map_call (like_item f like_end) = like-give_stage X.Map (like_item f like_end)
  like-map_call (like_item f (like_item c like_end)) = like-lazily O.Map (like_item f (like_item c like_end))
  like-map_call (like_item f (like_item c (like_item d like_end))) = like-lazily O.MapN (like_item f (like_item c (like_item d like_end)))
  like-map_call (like_item f (like_item c (like_item d (like_item e like_end)))) = like-lazily O.MapN (like_item f (like_item c (like_item d (like_item e like_end))))
  like-map_call (like_item f (like_item c (like_item d (like_item e (like_item g like_end))))) = like-lazily O.MapN (like_item f (like_item c (like_item d (like_item e (like_item g like_end)))))
  like-map_call _ = like_throw

  pub like-remove_call : {xs : List (Value C)} {ys : List (Value D)} → LikeList R xs ys → LikePlan R (remove_call xs) (remove_call ys)
  like-remove_call (like_item p like_end) = like-give_stage X.Remove (like_item p like_end)
  like-remove_call (like_item p (like_item c like_end)) = like-with_value (like_function (like_more p like_none)) (λ v w e. like-lazily O.Filter (like_item e (like_item c like_end)))
  like-remove_call _ = like_throw

  pub like-with_count : (op : Op) (kind : XfKind) {xs : List (Value C)} {ys : List (Value D)} → LikeList R xs ys → LikePlan R (with_count op kind xs) (with_count op kind ys)
  like-with_count op kind (like_item (like_int {n = n}) like_end) = like-give_stage kind (like_item (like_int {n = n}) like_end)
  like-with_count op kind (like_item (like_int {n = n}) (like_item c like_end)) = like-lazily op (like_item (like_int {n = n}) (like_item c like_end))
  like-with_count op kind (like_item _ like_end) = like_throw
  like-with_count op kind (like_item _ (like_item c like_end)) = like_throw
  like-with_count op kind _ = like_throw

  pub like-partition_call : {xs : List (Value C)} {ys : List (Value D)} → LikeList R xs ys → LikePlan R (partition_call xs) (partition_call ys)
  like-partition_call (like_item (like_int {n = n}) like_end) = like-at_least_one n (like-give_stage X.PartitionAll (like_item (like_int {n = n}) like_end))
  like-partition_call (like_item (like_int {n = n}) (like_item c like_end)) = like-at_least_one n (like-lazily O.Parts (like_item (like_int {n = n}) (like_item c like_end)))
  like-partition_call (like_item _ like_end) = like_throw
  like-partition_call (like_item _ (like_item c like_end)) = like_throw
  like-partition_call _ = like_throw

  like-iterate_rule : {f : Value C} {g : Value D} → Like R f g → {x : Value C} {y : Value D} → Like R x y → LikePlan R (iterate_rule f x) (iterate_rule g y)
  like-iterate_rule f x = like-first_and x O.Next (like_item f (like_item x like_end))

  pub like-iterate_call : {xs : List (Value C)} {ys : List (Value D)} → LikeList R xs ys → LikePlan R (iterate_call xs) (iterate_call ys)
  like-iterate_call (like_item f (like_item x like_end)) = like-iterate_rule f x
  like-iterate_call _ = like_throw

  pub like-range_call : {xs : List (Value C)} {ys : List (Value D)} → LikeList R xs ys → LikePlan R (range_call xs) (range_call ys)
  like-range_call like_end = like-iterate_rule (like_function like_none) like_int
  like-range_call (like_item (like_int {n = b}) like_end) = like_give (like-range_at (pos 0) (pos 0) b (λ s. refl))
  like-range_call (like_item (like_int {n = a}) (like_item (like_int {n = b}) like_end)) = like_give (like-range_at a a b (λ s. le_itself a))
  like-range_call (like_item _ like_end) = like_throw
  like-range_call (like_item _ (like_item _ like_end)) = like_throw
  like-range_call _ = like_throw

  pub like-repeat_call : {xs : List (Value C)} {ys : List (Value D)} → LikeList R xs ys → LikePlan R (repeat_call xs) (repeat_call ys)
  like-repeat_call (like_item x like_end) = like-lazily O.Repeat (like_item x like_end)
  like-repeat_call (like_item (like_int {n = n}) (like_item x like_end)) = like_make (like_term (like_item x like_end)) (λ c d r. like-lazily O.Take (like_item (like_int {n = n}) (like_item (like_cell r) like_end)))
  like-repeat_call (like_item _ (like_item x like_end)) = like_throw
  like-repeat_call _ = like_throw

  pub like-cycle_call : {xs : List (Value C)} {ys : List (Value D)} → LikeList R xs ys → LikePlan R (cycle_call xs) (cycle_call ys)
  like-cycle_call (like_item c like_end) = like-lazily O.Cycle (like_item c (like_item c like_end))
  like-cycle_call _ = like_throw
