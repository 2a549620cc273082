-- The rules of the words that walk and of lazy operations keep to well-formed values.
use Rattle.std.proofs.Common.{◌≡◌, ℕ, true, List, refl}
use Rattle.seq_values.specs.WellFormedTerms.{takes}
use Rattle.seq_values.specs.declared.words.Builtin.{Builtin}
use Rattle.seq_values.specs.declared.words.Builtin.TheVariants as B
use Rattle.seq_values.specs.declared.words.Op.{Op}
use Rattle.seq_values.specs.declared.words.Op.TheVariants as O
use Rattle.seq_values.specs.declared.words.XfKind.TheVariants as X
use Rattle.seq_values.specs.Model.{Value, values}
use Rattle.seq_plan.specs.Plan.{Loop, nth_from, last_from, count_from, gather_from, doall_from, every_from, some_from, equal_from, reduce_from, drop_from, drop_while_from, parts_from}
use Rattle.seq_plan.specs.WellFormed.{sights, Well, well_int, WellList, well_end, well_item}
use Rattle.seq_plan.specs.Keeping.{Variables, Given, Keeps, keeps_seq, keeps_give, keeps_throw, KeepsRound, keeps_fail}
use Rattle.seq_plan.proofs.WellLists.{keeps-lazily, keeps-of_value}
use Rattle.lazy_rows.specs.Table.{walk_call, lazy_term, walk_round}
use Rattle.lazy_rows.proofs.WellWalks.{keeps-first_rule, keeps-second_rule, keeps-rest_rule, keeps-next_rule, keeps-empty_rule, keeps-nth_call, keeps-nth_round, keeps-last_rule, keeps-last_round, keeps-count_rule, keeps-count_round, keeps-gather_round, keeps-vec_rule, keeps-reverse_rule, keeps-apply_call, keeps-doall_rule, keeps-doall_round, keeps-every_call, keeps-every_round, keeps-some_call, keeps-some_round, keeps-cons_call, keeps-conj_call, keeps-reduce_call, keeps-reduce_round, keeps-into_call}
use Rattle.lazy_rows.proofs.WellEqual.{keeps-equal_call, keeps-unequal_call, keeps-equal_round}
use Rattle.lazy_rows.proofs.WellCalls.{keeps-with_function, keeps-map_call, keeps-remove_call, keeps-with_count, keeps-partition_call, keeps-iterate_call, keeps-range_call, keeps-repeat_call, keeps-cycle_call}
use Rattle.lazy_rows.proofs.WellTerms.{keeps-map_rule, keeps-map_all_rule, keeps-filter_rule, keeps-keep_rule, keeps-take_rule, keeps-take_while_rule, keeps-drop_rule, keeps-drop_round, keeps-drop_while_rule, keeps-drop_while_round, keeps-concat_rule, keeps-mapcat_rule, keeps-next_one_rule, keeps-repeat_rule, keeps-cycle_rule, keeps-parts_rule, keeps-parts_round}

module _ {C : Type 0} where
  pub keeps-walk_call : (word : Builtin) {xs : List (Value C)} → WellList xs → Keeps Well (walk_call word xs)
  keeps-walk_call B.Seq h = keeps-of_value (λ v w. keeps_seq w (λ s u e. keeps_give u)) h
  keeps-walk_call B.First h = keeps-of_value (λ v w. keeps-first_rule w) h
  keeps-walk_call B.Second h = keeps-of_value (λ v w. keeps-second_rule w) h
  keeps-walk_call B.Rest h = keeps-of_value (λ v w. keeps-rest_rule w) h
  keeps-walk_call B.Next h = keeps-of_value (λ v w. keeps-next_rule w) h
  keeps-walk_call B.Nth h = keeps-nth_call h
  keeps-walk_call B.Last h = keeps-of_value (λ v w. keeps-last_rule w) h
  keeps-walk_call B.Count h = keeps-of_value (λ v w. keeps-count_rule w) h
  keeps-walk_call B.IsEmpty h = keeps-of_value (λ v w. keeps-empty_rule w) h
  keeps-walk_call B.Cons h = keeps-cons_call h
  keeps-walk_call B.Conj h = keeps-conj_call h
  keeps-walk_call B.Vec h = keeps-of_value (λ v w. keeps-vec_rule w) h
  keeps-walk_call B.Reverse h = keeps-of_value (λ v w. keeps-reverse_rule w) h
  keeps-walk_call B.Doall h = keeps-of_value (λ v w. keeps-doall_rule w) h
  keeps-walk_call B.IsEvery h = keeps-every_call h
  keeps-walk_call B.Some h = keeps-some_call h
  keeps-walk_call B.Apply h = keeps-apply_call h
  keeps-walk_call B.Equal h = keeps-equal_call h
  keeps-walk_call B.NotEqual h = keeps-unequal_call h
  keeps-walk_call B.Reduce h = keeps-reduce_call h
  keeps-walk_call B.Into h = keeps-into_call h
  keeps-walk_call B.Map h = keeps-map_call h
  keeps-walk_call B.Filter h = keeps-with_function O.Filter X.Filter (λ f. refl, λ f c. refl) h
  keeps-walk_call B.Keep h = keeps-with_function O.Keep X.Keep (λ f. refl, λ f c. refl) h
  keeps-walk_call B.Remove h = keeps-remove_call h
  keeps-walk_call B.Take h = keeps-with_count O.Take X.Take (λ n. refl, λ n c. refl) h
  keeps-walk_call B.Drop h = keeps-with_count O.Drop X.Drop (λ n. refl, λ n c. refl) h
  keeps-walk_call B.TakeWhile h = keeps-with_function O.TakeWhile X.TakeWhile (λ f. refl, λ f c. refl) h
  keeps-walk_call B.DropWhile h = keeps-with_function O.DropWhile X.DropWhile (λ f. refl, λ f c. refl) h
  keeps-walk_call B.Concat h = keeps-lazily O.Concat h refl
  keeps-walk_call B.Mapcat h = keeps-with_function O.Mapcat X.Mapcat (λ f. refl, λ f c. refl) h
  keeps-walk_call B.Iterate h = keeps-iterate_call h
  keeps-walk_call B.Range h = keeps-range_call h
  keeps-walk_call B.Repeat h = keeps-repeat_call h
  keeps-walk_call B.Cycle h = keeps-cycle_call h
  keeps-walk_call B.PartitionAll h = keeps-partition_call h
  keeps-walk_call B.Cat h = keeps_throw
  keeps-walk_call _ h = keeps_throw

  pub keeps-lazy_term : (size : ℕ) (op : Op) {xs : List (Value C)} → WellList xs → takes op (sights (values xs)) ≡ true → Keeps Well (lazy_term size op xs)
  keeps-lazy_term size O.Map (well_item f (well_item c well_end)) t = keeps-map_rule size f c
  keeps-lazy_term size O.MapN (well_item f cs) t = keeps-map_all_rule f cs t
  keeps-lazy_term size O.Filter (well_item p (well_item c well_end)) t = keeps-filter_rule size p c
  keeps-lazy_term size O.Keep (well_item f (well_item c well_end)) t = keeps-keep_rule size f c
  keeps-lazy_term size O.Take (well_item (well_int {n = n}) (well_item c well_end)) t = keeps-take_rule n c
  keeps-lazy_term size O.TakeWhile (well_item p (well_item c well_end)) t = keeps-take_while_rule p c
  keeps-lazy_term size O.Drop (well_item (well_int {n = n}) (well_item c well_end)) t = keeps-drop_rule n c
  keeps-lazy_term size O.DropWhile (well_item p (well_item c well_end)) t = keeps-drop_while_rule p c
  keeps-lazy_term size O.Concat h t = keeps-concat_rule size h
  keeps-lazy_term size O.Mapcat (well_item f (well_item c well_end)) t = keeps-mapcat_rule f c
  keeps-lazy_term size O.Next (well_item f (well_item x well_end)) t = keeps-next_one_rule f x
  keeps-lazy_term size O.Repeat (well_item x well_end) t = keeps-repeat_rule x
  keeps-lazy_term size O.Cycle (well_item whole (well_item c well_end)) t = keeps-cycle_rule whole c
  keeps-lazy_term size O.Parts (well_item (well_int {n = n}) (well_item c well_end)) t = keeps-parts_rule n t c
  keeps-lazy_term size _ _ t = keeps_throw

  pub keeps-walk_round : (l : Loop) (xs : List (Value C)) → Variables l xs → KeepsRound (Given l xs) (walk_round l xs)
  keeps-walk_round nth_from xs h = keeps-nth_round h
  keeps-walk_round last_from xs h = keeps-last_round h
  keeps-walk_round count_from xs h = keeps-count_round h
  keeps-walk_round gather_from xs h = keeps-gather_round h
  keeps-walk_round doall_from xs h = keeps-doall_round h
  keeps-walk_round every_from xs h = keeps-every_round h
  keeps-walk_round some_from xs h = keeps-some_round h
  keeps-walk_round equal_from xs h = keeps-equal_round h
  keeps-walk_round reduce_from xs h = keeps-reduce_round h
  keeps-walk_round drop_from xs h = keeps-drop_round h
  keeps-walk_round drop_while_from xs h = keeps-drop_while_round h
  keeps-walk_round parts_from xs h = keeps-parts_round h
  keeps-walk_round _ xs h = keeps_fail
