-- The table of the language, whole: what each call, term and loop does, by the rows of the rule crates.
use Rattle.std.specs.Prelude.{ℕ, cond, List, [], ◌∷◌}
use Rattle.seq_base.specs.declared.thrown.Thrown.TheVariants.{BadType}
use Rattle.seq_values.specs.declared.words.Builtin.{Builtin}
use Rattle.seq_values.specs.declared.words.Builtin.TheVariants as B
use Rattle.seq_values.specs.declared.words.Op.{Op}
use Rattle.seq_values.specs.declared.words.Op.TheVariants as O
use Rattle.seq_values.specs.declared.words.Target.{Target}
use Rattle.seq_values.specs.declared.words.Target.TheVariants as T
use Rattle.seq_values.specs.Model.{Value}
use Rattle.seq_plan.specs.Plan.{Plan, throw, Loop, nth_from, last_from, count_from, gather_from, doall_from, every_from, some_from, equal_from, reduce_from, enter_from, drop_from, drop_while_from, parts_from, pull_from, ahead_from, print_value, print_rest, Round, Rules}
use Rattle.core_rows.specs.Table.{core_call, core_function}
use Rattle.lazy_rows.specs.Table.{walk_call, lazy_term, walk_round}
use Rattle.stage_rows.specs.Table.{stage_call, pull_term, stage_round}
use Rattle.ahead_rows.specs.Table.{ahead_call, ahead_term, ahead_round}
use Rattle.fold_rows.specs.Table.{is_reducer, fold_call, fold_term}
use Rattle.seq_meaning.specs.Prints.{value_round, rest_round, print_rule}

-- elements of a chunk of a range or of a vector's seq, and outputs of a pull
abbrev pub chunk_size : ℕ
chunk_size = 32

module _ {C : Type 0} where
  -- a word over a collection: by the row of reducers where that is a reducer value
  abbrev pub over : Builtin → Value C → List (Value C) → Plan C
  over word c xs = cond (is_reducer c) (fold_call word xs) (walk_call word xs)

  -- `reduce`: a function, a first answer or none, and the collection
  abbrev pub reduce_row : List (Value C) → Plan C
  reduce_row (f ∷ c ∷ []) = over B.Reduce c (f ∷ c ∷ [])
  reduce_row (f ∷ i ∷ c ∷ []) = over B.Reduce c (f ∷ i ∷ c ∷ [])
  reduce_row xs = walk_call B.Reduce xs

  -- `into`: what the elements are put into, a transducer or none, and the collection
  abbrev pub into_row : List (Value C) → Plan C
  into_row (to ∷ c ∷ []) = over B.Into c (to ∷ c ∷ [])
  into_row (to ∷ xf ∷ c ∷ []) = stage_call B.Into (to ∷ xf ∷ c ∷ [])
  into_row xs = walk_call B.Into xs

  -- what a call of a word does after its own step, by the number of processors
  abbrev pub on_word : ℕ → Builtin → List (Value C) → Plan C
  on_word processors B.Plus xs = core_call B.Plus xs
  on_word processors B.Times xs = core_call B.Times xs
  on_word processors B.Minus xs = core_call B.Minus xs
  on_word processors B.Inc xs = core_call B.Inc xs
  on_word processors B.Dec xs = core_call B.Dec xs
  on_word processors B.Quot xs = core_call B.Quot xs
  on_word processors B.Rem xs = core_call B.Rem xs
  on_word processors B.Mod xs = core_call B.Mod xs
  on_word processors B.Min xs = core_call B.Min xs
  on_word processors B.Max xs = core_call B.Max xs
  on_word processors B.Less xs = core_call B.Less xs
  on_word processors B.LessOrEqual xs = core_call B.LessOrEqual xs
  on_word processors B.Greater xs = core_call B.Greater xs
  on_word processors B.GreaterOrEqual xs = core_call B.GreaterOrEqual xs
  on_word processors B.IsZero xs = core_call B.IsZero xs
  on_word processors B.IsPositive xs = core_call B.IsPositive xs
  on_word processors B.IsNegative xs = core_call B.IsNegative xs
  on_word processors B.IsEven xs = core_call B.IsEven xs
  on_word processors B.IsOdd xs = core_call B.IsOdd xs
  on_word processors B.IsNil xs = core_call B.IsNil xs
  on_word processors B.IsSome xs = core_call B.IsSome xs
  on_word processors B.IsTrue xs = core_call B.IsTrue xs
  on_word processors B.IsFalse xs = core_call B.IsFalse xs
  on_word processors B.Not xs = core_call B.Not xs
  on_word processors B.IsNumber xs = core_call B.IsNumber xs
  on_word processors B.IsKeyword xs = core_call B.IsKeyword xs
  on_word processors B.IsString xs = core_call B.IsString xs
  on_word processors B.IsVector xs = core_call B.IsVector xs
  on_word processors B.IsFunction xs = core_call B.IsFunction xs
  on_word processors B.Identity xs = core_call B.Identity xs
  on_word processors B.Constantly xs = core_call B.Constantly xs
  on_word processors B.Complement xs = core_call B.Complement xs
  on_word processors B.Partial xs = core_call B.Partial xs
  on_word processors B.Comp xs = core_call B.Comp xs
  on_word processors B.Completing xs = core_call B.Completing xs
  on_word processors B.Monoid xs = core_call B.Monoid xs
  on_word processors B.Vector xs = core_call B.Vector xs
  on_word processors B.List xs = core_call B.List xs
  on_word processors B.Reduced xs = core_call B.Reduced xs
  on_word processors B.IsReduced xs = core_call B.IsReduced xs
  on_word processors B.Unreduced xs = core_call B.Unreduced xs
  on_word processors B.Seq xs = walk_call B.Seq xs
  on_word processors B.First xs = walk_call B.First xs
  on_word processors B.Second xs = walk_call B.Second xs
  on_word processors B.Rest xs = walk_call B.Rest xs
  on_word processors B.Next xs = walk_call B.Next xs
  on_word processors B.Nth xs = walk_call B.Nth xs
  on_word processors B.Last xs = walk_call B.Last xs
  on_word processors B.Count xs = walk_call B.Count xs
  on_word processors B.IsEmpty xs = walk_call B.IsEmpty xs
  on_word processors B.Cons xs = walk_call B.Cons xs
  on_word processors B.Conj xs = walk_call B.Conj xs
  on_word processors B.Vec xs = walk_call B.Vec xs
  on_word processors B.Reverse xs = walk_call B.Reverse xs
  on_word processors B.Doall xs = walk_call B.Doall xs
  on_word processors B.IsEvery xs = walk_call B.IsEvery xs
  on_word processors B.Some xs = walk_call B.Some xs
  on_word processors B.Apply xs = walk_call B.Apply xs
  on_word processors B.Equal xs = walk_call B.Equal xs
  on_word processors B.NotEqual xs = walk_call B.NotEqual xs
  on_word processors B.Map xs = walk_call B.Map xs
  on_word processors B.Filter xs = walk_call B.Filter xs
  on_word processors B.Keep xs = walk_call B.Keep xs
  on_word processors B.Remove xs = walk_call B.Remove xs
  on_word processors B.Take xs = walk_call B.Take xs
  on_word processors B.Drop xs = walk_call B.Drop xs
  on_word processors B.TakeWhile xs = walk_call B.TakeWhile xs
  on_word processors B.DropWhile xs = walk_call B.DropWhile xs
  on_word processors B.Concat xs = walk_call B.Concat xs
  on_word processors B.Mapcat xs = walk_call B.Mapcat xs
  on_word processors B.Iterate xs = walk_call B.Iterate xs
  on_word processors B.Range xs = walk_call B.Range xs
  on_word processors B.Repeat xs = walk_call B.Repeat xs
  on_word processors B.Cycle xs = walk_call B.Cycle xs
  on_word processors B.PartitionAll xs = walk_call B.PartitionAll xs
  on_word processors B.Cat xs = walk_call B.Cat xs
  on_word processors B.Transduce xs = stage_call B.Transduce xs
  on_word processors B.Sequence xs = stage_call B.Sequence xs
  on_word processors B.Pmap xs = ahead_call processors B.Pmap xs
  on_word processors B.Seque xs = ahead_call processors B.Seque xs
  on_word processors B.ReducerMap xs = fold_call B.ReducerMap xs
  on_word processors B.ReducerFilter xs = fold_call B.ReducerFilter xs
  on_word processors B.ReducerRemove xs = fold_call B.ReducerRemove xs
  on_word processors B.ReducerMapcat xs = fold_call B.ReducerMapcat xs
  on_word processors B.ReducerTake xs = fold_call B.ReducerTake xs
  on_word processors B.ReducerTakeWhile xs = fold_call B.ReducerTakeWhile xs
  on_word processors B.Fold xs = fold_call B.Fold xs
  on_word processors B.Reduce xs = reduce_row xs
  on_word processors B.Into xs = into_row xs

  -- What a call does after its own step. A transducer with a stage or a reducer value throws, whatever the arguments are.
  abbrev pub on_call : ℕ → Target → List (Value C) → List (Value C) → Plan C
  on_call processors (T.Builtin word) bound xs = on_word processors word xs
  on_call processors t bound xs = core_function t bound xs

  -- The work of a term, by the number of elements in a chunk. The body of a `lazy-seq` isn't looked up here.
  abbrev pub on_term : ℕ → Op → List (Value C) → Plan C
  on_term size O.Map xs = lazy_term size O.Map xs
  on_term size O.MapN xs = lazy_term size O.MapN xs
  on_term size O.Filter xs = lazy_term size O.Filter xs
  on_term size O.Keep xs = lazy_term size O.Keep xs
  on_term size O.Take xs = lazy_term size O.Take xs
  on_term size O.TakeWhile xs = lazy_term size O.TakeWhile xs
  on_term size O.Drop xs = lazy_term size O.Drop xs
  on_term size O.DropWhile xs = lazy_term size O.DropWhile xs
  on_term size O.Concat xs = lazy_term size O.Concat xs
  on_term size O.Mapcat xs = lazy_term size O.Mapcat xs
  on_term size O.Next xs = lazy_term size O.Next xs
  on_term size O.Repeat xs = lazy_term size O.Repeat xs
  on_term size O.Cycle xs = lazy_term size O.Cycle xs
  on_term size O.Parts xs = lazy_term size O.Parts xs
  on_term size O.Pull xs = pull_term size xs
  on_term size O.Rets xs = ahead_term size O.Rets xs
  on_term size O.Step xs = ahead_term size O.Step xs
  on_term size O.Derefs xs = ahead_term size O.Derefs xs
  on_term size O.Call xs = ahead_term size O.Call xs
  on_term size O.Ahead xs = ahead_term size O.Ahead xs
  on_term size O.AheadOf xs = ahead_term size O.AheadOf xs
  on_term size O.Near xs = ahead_term size O.Near xs
  on_term size O.Fold xs = fold_term xs
  on_term size (O.Body b) xs = throw BadType

  -- the rounds of the loops
  abbrev pub on_loop : Loop → List (Value C) → Round C
  on_loop nth_from xs = walk_round nth_from xs
  on_loop last_from xs = walk_round last_from xs
  on_loop count_from xs = walk_round count_from xs
  on_loop gather_from xs = walk_round gather_from xs
  on_loop doall_from xs = walk_round doall_from xs
  on_loop every_from xs = walk_round every_from xs
  on_loop some_from xs = walk_round some_from xs
  on_loop equal_from xs = walk_round equal_from xs
  on_loop reduce_from xs = walk_round reduce_from xs
  on_loop drop_from xs = walk_round drop_from xs
  on_loop drop_while_from xs = walk_round drop_while_from xs
  on_loop parts_from xs = walk_round parts_from xs
  on_loop enter_from xs = stage_round enter_from xs
  on_loop pull_from xs = stage_round pull_from xs
  on_loop ahead_from xs = ahead_round ahead_from xs
  on_loop print_value xs = value_round xs
  on_loop print_rest xs = rest_round xs

-- the rules of the language, by the number of processors and the number of elements in a chunk
abbrev pub rules_of : {C : Type 0} → ℕ → ℕ → Rules C
rules_of processors size = record { on_call = on_call processors; on_term = on_term size; on_loop = on_loop; on_print = print_rule }

-- the rules, with the chunks of this language
abbrev pub language : {C : Type 0} → ℕ → Rules C
language processors = rules_of processors chunk_size
