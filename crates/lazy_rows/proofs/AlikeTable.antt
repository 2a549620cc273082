-- The gathered rules look at cells only to ask them.
use Rattle.std.proofs.Common.{ℕ, List}
use Rattle.seq_values.specs.declared.words.Builtin.{Builtin}
use Rattle.seq_values.specs.declared.words.Builtin.TheVariants as B
use Rattle.seq_values.specs.declared.words.Op.{Op}
use Rattle.seq_values.specs.declared.words.Op.TheVariants as O
use Rattle.seq_values.specs.declared.words.XfKind.TheVariants as X
use Rattle.seq_values.specs.Model.{Value}
use Rattle.seq_plan.specs.Plan.{Loop, nth_from, last_from, count_from, gather_from, doall_from, every_from, some_from, equal_from, reduce_from, drop_from, drop_while_from, parts_from}
use Rattle.seq_plan.specs.Alike.{Likeness, like_int, LikeList, like_end, like_item, LikePlan, like_seq, like_give, like_throw, LikeRound, like_fails}
use Rattle.seq_plan.proofs.AlikeLists.{like-of_value, like-lazily}
use Rattle.lazy_rows.specs.Table.{walk_call, lazy_term, walk_round}
use Rattle.lazy_rows.proofs.AlikeWalks.{like-first_rule, like-second_rule, like-rest_rule, like-next_rule, like-empty_rule, like-nth_call, like-nth_round, like-last_rule, like-last_round, like-count_rule, like-count_round, like-gather_round, like-vec_rule, like-reverse_rule, like-apply_call, like-doall_rule, like-doall_round, like-every_call, like-every_round, like-some_call, like-some_round, like-cons_call, like-conj_call, like-reduce_call, like-reduce_round, like-into_call}
use Rattle.lazy_rows.proofs.AlikeEqual.{like-equal_call, like-unequal_call, like-equal_round}
use Rattle.lazy_rows.proofs.AlikeCalls.{like-with_function, like-map_call, like-remove_call, like-with_count, like-partition_call, like-iterate_call, like-range_call, like-repeat_call, like-cycle_call}
use Rattle.lazy_rows.proofs.AlikeTerms.{like-map_rule, like-map_all_rule, like-filter_rule, like-keep_rule, like-take_rule, like-take_while_rule, like-drop_rule, like-drop_round, like-drop_while_rule, like-drop_while_round, like-concat_rule, like-mapcat_rule, like-next_one_rule, like-repeat_rule, like-cycle_rule, like-parts_rule, like-parts_round}

module _ {C D : Type 0} {R : Likeness C D} where
  pub like-walk_call : (word : Builtin) {xs : List (Value C)} {ys : List (Value D)} → LikeList R xs ys → LikePlan R (walk_call word xs) (walk_call word ys)
  like-walk_call B.Seq h = like-of_value (λ v w e. like_seq e (λ s t i. like_give i)) h
  like-walk_call B.First h = like-of_value (λ v w e. like-first_rule e) h
  like-walk_call B.Second h = like-of_value (λ v w e. like-second_rule e) h
  like-walk_call B.Rest h = like-of_value (λ v w e. like-rest_rule e) h
  like-walk_call B.Next h = like-of_value (λ v w e. like-next_rule e) h
  like-walk_call B.Nth h = like-nth_call h
  like-walk_call B.Last h = like-of_value (λ v w e. like-last_rule e) h
  like-walk_call B.Count h = like-of_value (λ v w e. like-count_rule e) h
  like-walk_call B.IsEmpty h = like-of_value (λ v w e. like-empty_rule e) h
  like-walk_call B.Cons h = like-cons_call h
  like-walk_call B.Conj h = like-conj_call h
  like-walk_call B.Vec h = like-of_value (λ v w e. like-vec_rule e) h
  like-walk_call B.Reverse h = like-of_value (λ v w e. like-reverse_rule e) h
  like-walk_call B.Doall h = like-of_value (λ v w e. like-doall_rule e) h
  like-walk_call B.IsEvery h = like-every_call h
  like-walk_call B.Some h = like-some_call h
  like-walk_call B.Apply h = like-apply_call h
  like-walk_call B.Equal h = like-equal_call h
  like-walk_call B.NotEqual h = like-unequal_call h
  like-walk_call B.Reduce h = like-reduce_call h
  like-walk_call B.Into h = like-into_call h
  like-walk_call B.Map h = like-map_call h
  like-walk_call B.Filter h = like-with_function O.Filter X.Filter h
  like-walk_call B.Keep h = like-with_function O.Keep X.Keep h
  like-walk_call B.Remove h = like-remove_call h
  like-walk_call B.Take h = like-with_count O.Take X.Take h
  like-walk_call B.Drop h = like-with_count O.Drop X.Drop h
  like-walk_call B.TakeWhile h = like-with_function O.TakeWhile X.TakeWhile h
  like-walk_call B.DropWhile h = like-with_function O.DropWhile X.DropWhile h
  like-walk_call B.Concat h = like-lazily O.Concat h
  like-walk_call B.Mapcat h = like-with_function O.Mapcat X.Mapcat h
  like-walk_call B.Iterate h = like-iterate_call h
  like-walk_call B.Range h = like-range_call h
  like-walk_call B.Repeat h = like-repeat_call h
  like-walk_call B.Cycle h = like-cycle_call h
  like-walk_call B.PartitionAll h = like-partition_call h
  like-walk_call B.Cat h = like_throw
  like-walk_call _ h = like_throw

  pub like-lazy_term : (size : ℕ) (op : Op) {xs : List (Value C)} {ys : List (Value D)} → LikeList R xs ys → LikePlan R (lazy_term size op xs) (lazy_term size op ys)
  like-lazy_term size O.Map (like_item f (like_item c like_end)) = like-map_rule size f c
  like-lazy_term size O.MapN (like_item f cs) = like-map_all_rule f cs
  like-lazy_term size O.Filter (like_item p (like_item c like_end)) = like-filter_rule size p c
  like-lazy_term size O.Keep (like_item f (like_item c like_end)) = like-keep_rule size f c
  like-lazy_term size O.Take (like_item (like_int {n = n}) (like_item c like_end)) = like-take_rule n c
  like-lazy_term size O.TakeWhile (like_item p (like_item c like_end)) = like-take_while_rule p c
  like-lazy_term size O.Drop (like_item (like_int {n = n}) (like_item c like_end)) = like-drop_rule n c
  like-lazy_term size O.DropWhile (like_item p (like_item c like_end)) = like-drop_while_rule p c
  like-lazy_term size O.Concat h = like-concat_rule size h
  like-lazy_term size O.Mapcat (like_item f (like_item c like_end)) = like-mapcat_rule f c
  like-lazy_term size O.Next (like_item f (like_item x like_end)) = like-next_one_rule f x
  like-lazy_term size O.Repeat (like_item x like_end) = like-repeat_rule x
  like-lazy_term size O.Cycle (like_item whole (like_item c like_end)) = like-cycle_rule whole c
  like-lazy_term size O.Parts (like_item (like_int {n = n}) (like_item c like_end)) = like-parts_rule n c
  like-lazy_term size _ _ = like_throw

  pub like-walk_round : (l : Loop) {xs : List (Value C)} {ys : List (Value D)} → LikeList R xs ys → LikeRound R (walk_round l xs) (walk_round l ys)
  like-walk_round nth_from h = like-nth_round h
  like-walk_round last_from h = like-last_round h
  like-walk_round count_from h = like-count_round h
  like-walk_round gather_from h = like-gather_round h
  like-walk_round doall_from h = like-doall_round h
  like-walk_round every_from h = like-every_round h
  like-walk_round some_from h = like-some_round h
  like-walk_round equal_from h = like-equal_round h
  like-walk_round reduce_from h = like-reduce_round h
  like-walk_round drop_from h = like-drop_round h
  like-walk_round drop_while_from h = like-drop_while_round h
  like-walk_round parts_from h = like-parts_round h
  like-walk_round _ h = like_fails
