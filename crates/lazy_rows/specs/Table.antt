-- The rules of the words that walk and of lazy operations, gathered.
use Rattle.std.specs.Prelude.{ℕ, List, [], ◌∷◌}
use Rattle.seq_base.specs.declared.thrown.Thrown.TheVariants.{Arity, BadType}
use Rattle.seq_values.specs.declared.words.Builtin.{Builtin}
use Rattle.seq_values.specs.declared.words.Builtin.TheVariants as B
use Rattle.seq_values.specs.declared.words.Op.{Op}
use Rattle.seq_values.specs.declared.words.Op.TheVariants as O
use Rattle.seq_values.specs.declared.words.XfKind.TheVariants as X
use Rattle.seq_values.specs.Model.{Value, int}
use Rattle.seq_plan.specs.Plan.{Plan, seq, give, throw, Loop, nth_from, last_from, count_from, gather_from, doall_from, every_from, some_from, equal_from, reduce_from, drop_from, drop_while_from, parts_from, Round, fails}
use Rattle.seq_plan.specs.Lists.{lazily}
use Rattle.seq_plan.specs.Arguments.{of_value}
use Rattle.lazy_rows.specs.Walks.{first_rule, second_rule, rest_rule, next_rule, empty_rule, nth_call, nth_round, last_rule, last_round, count_rule, count_round, gather_round, vec_rule, reverse_rule, apply_call, doall_rule, doall_round, every_call, every_round, some_call, some_round, cons_call, conj_call, reduce_call, reduce_round, into_call}
use Rattle.lazy_rows.specs.Equal.{equal_call, unequal_call, equal_round}
use Rattle.lazy_rows.specs.Calls.{with_function, map_call, remove_call, with_count, partition_call, iterate_call, range_call, repeat_call, cycle_call}
use Rattle.lazy_rows.specs.Terms.{map_rule, map_all_rule, filter_rule, keep_rule, take_rule, take_while_rule, drop_rule, drop_round, drop_while_rule, drop_while_round, concat_rule, mapcat_rule, next_one_rule, repeat_rule, cycle_rule, parts_rule, parts_round}

module _ {C : Type 0} where
  -- What a call of a word does after its own step. `cat` is a transducer, and isn't called.
  abbrev pub walk_call : Builtin → List (Value C) → Plan C
  walk_call B.Seq xs = of_value (λ x. seq x give) xs
  walk_call B.First xs = of_value first_rule xs
  walk_call B.Second xs = of_value second_rule xs
  walk_call B.Rest xs = of_value rest_rule xs
  walk_call B.Next xs = of_value next_rule xs
  walk_call B.Nth xs = nth_call xs
  walk_call B.Last xs = of_value last_rule xs
  walk_call B.Count xs = of_value count_rule xs
  walk_call B.IsEmpty xs = of_value empty_rule xs
  walk_call B.Cons xs = cons_call xs
  walk_call B.Conj xs = conj_call xs
  walk_call B.Vec xs = of_value vec_rule xs
  walk_call B.Reverse xs = of_value reverse_rule xs
  walk_call B.Doall xs = of_value doall_rule xs
  walk_call B.IsEvery xs = every_call xs
  walk_call B.Some xs = some_call xs
  walk_call B.Apply xs = apply_call xs
  walk_call B.Equal xs = equal_call xs
  walk_call B.NotEqual xs = unequal_call xs
  walk_call B.Reduce xs = reduce_call xs
  walk_call B.Into xs = into_call xs
  walk_call B.Map xs = map_call xs
  walk_call B.Filter xs = with_function O.Filter X.Filter xs
  walk_call B.Keep xs = with_function O.Keep X.Keep xs
  walk_call B.Remove xs = remove_call xs
  walk_call B.Take xs = with_count O.Take X.Take xs
  walk_call B.Drop xs = with_count O.Drop X.Drop xs
  walk_call B.TakeWhile xs = with_function O.TakeWhile X.TakeWhile xs
  walk_call B.DropWhile xs = with_function O.DropWhile X.DropWhile xs
  walk_call B.Concat xs = lazily O.Concat xs
  walk_call B.Mapcat xs = with_function O.Mapcat X.Mapcat xs
  walk_call B.Iterate xs = iterate_call xs
  walk_call B.Range xs = range_call xs
  walk_call B.Repeat xs = repeat_call xs
  walk_call B.Cycle xs = cycle_call xs
  walk_call B.PartitionAll xs = partition_call xs
  walk_call B.Cat xs = throw BadType
  walk_call _ xs = throw Arity

  -- The work of a term, by the number of elements in a chunk of a range or of a vector's seq.
  abbrev pub lazy_term : ℕ → Op → List (Value C) → Plan C
  lazy_term size O.Map (f ∷ c ∷ []) = map_rule size f c
  lazy_term size O.MapN (f ∷ cs) = map_all_rule f cs
  lazy_term size O.Filter (p ∷ c ∷ []) = filter_rule size p c
  lazy_term size O.Keep (f ∷ c ∷ []) = keep_rule size f c
  lazy_term size O.Take (int n ∷ c ∷ []) = take_rule n c
  lazy_term size O.TakeWhile (p ∷ c ∷ []) = take_while_rule p c
  lazy_term size O.Drop (int n ∷ c ∷ []) = drop_rule n c
  lazy_term size O.DropWhile (p ∷ c ∷ []) = drop_while_rule p c
  lazy_term size O.Concat cs = concat_rule size cs
  lazy_term size O.Mapcat (f ∷ c ∷ []) = mapcat_rule f c
  lazy_term size O.Next (f ∷ x ∷ []) = next_one_rule f x
  lazy_term size O.Repeat (x ∷ []) = repeat_rule x
  lazy_term size O.Cycle (whole ∷ c ∷ []) = cycle_rule whole c
  lazy_term size O.Parts (int n ∷ c ∷ []) = parts_rule n c
  lazy_term size _ _ = throw BadType

  abbrev pub walk_round : Loop → List (Value C) → Round C
  walk_round nth_from xs = nth_round xs
  walk_round last_from xs = last_round xs
  walk_round count_from xs = count_round xs
  walk_round gather_from xs = gather_round xs
  walk_round doall_from xs = doall_round xs
  walk_round every_from xs = every_round xs
  walk_round some_from xs = some_round xs
  walk_round equal_from xs = equal_round xs
  walk_round reduce_from xs = reduce_round xs
  walk_round drop_from xs = drop_round xs
  walk_round drop_while_from xs = drop_while_round xs
  walk_round parts_from xs = parts_round xs
  walk_round _ xs = fails BadType
