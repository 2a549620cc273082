-- The table keeps to well-formed values.
use Rattle.std.proofs.Common.{◌≡◌, ℕ, true, List}
use Rattle.seq_values.specs.WellFormedTerms.{takes}
use Rattle.seq_values.specs.declared.words.Builtin.{Builtin}
use Rattle.seq_values.specs.declared.words.Builtin.TheVariants as B
use Rattle.seq_values.specs.declared.words.Op.{Op}
use Rattle.seq_values.specs.declared.words.Op.TheVariants as O
use Rattle.seq_values.specs.declared.words.Target.{Target}
use Rattle.seq_values.specs.declared.words.Target.TheVariants as T
use Rattle.seq_values.specs.Model.{Value, values}
use Rattle.seq_plan.specs.Plan.{Loop, nth_from, last_from, count_from, gather_from, doall_from, every_from, some_from, equal_from, reduce_from, enter_from, drop_from, drop_while_from, parts_from, pull_from, ahead_from, print_value, print_rest}
use Rattle.seq_plan.specs.WellFormed.{sights, Well, WellList, well_end, well_item}
use Rattle.seq_plan.specs.Keeping.{Variables, Given, Keeps, keeps_throw, KeepsRound, KeepsRules}
use Rattle.seq_plan.proofs.WellNodes.{keeps-either}
use Rattle.core_rows.proofs.WellCore.{keeps-core_call, keeps-core_function}
use Rattle.lazy_rows.proofs.WellTable.{keeps-walk_call, keeps-lazy_term, keeps-walk_round}
use Rattle.stage_rows.proofs.WellTable.{keeps-stage_call, keeps-pull_term, keeps-stage_round}
use Rattle.ahead_rows.proofs.WellAhead.{keeps-ahead_call, keeps-ahead_term, keeps-ahead_round}
use Rattle.fold_rows.specs.Table.{is_reducer}
use Rattle.fold_rows.proofs.WellFolds.{keeps-fold_call, keeps-fold_term}
use Rattle.seq_meaning.proofs.WellPrints.{keeps-value_round, keeps-rest_round, keeps-print_rule}
use Rattle.seq_table.specs.Table.{over, reduce_row, into_row, on_word, on_call, on_term, on_loop, rules_of}

module _ {C : Type 0} where
  keeps-over : (word : Builtin) (c : Value C) {xs : List (Value C)} → WellList xs → Keeps Well (over word c xs)
  keeps-over word c h = keeps-either (is_reducer c) (keeps-fold_call word h) (keeps-walk_call word h)

  keeps-reduce_row : {xs : List (Value C)} → WellList xs → Keeps Well (reduce_row xs)
  keeps-reduce_row (well_item f (well_item c well_end)) = keeps-over B.Reduce _ (well_item f (well_item c well_end))
  keeps-reduce_row (well_item f (well_item i (well_item c well_end))) = keeps-over B.Reduce _ (well_item f (well_item i (well_item c well_end)))
  keeps-reduce_row well_end = keeps-walk_call B.Reduce well_end
  keeps-reduce_row (well_item f well_end) = keeps-walk_call B.Reduce (well_item f well_end)
  keeps-reduce_row (well_item f (well_item g (well_item h (well_item i j)))) = keeps-walk_call B.Reduce (well_item f (well_item g (well_item h (well_item i j))))

  keeps-into_row : {xs : List (Value C)} → WellList xs → Keeps Well (into_row xs)
  keeps-into_row (well_item f (well_item c well_end)) = keeps-over B.Into _ (well_item f (well_item c well_end))
  keeps-into_row (well_item f (well_item i (well_item c well_end))) = keeps-stage_call B.Into (well_item f (well_item i (well_item c well_end)))
  keeps-into_row well_end = keeps-walk_call B.Into well_end
  keeps-into_row (well_item f well_end) = keeps-walk_call B.Into (well_item f well_end)
  keeps-into_row (well_item f (well_item g (well_item h (well_item i j)))) = keeps-walk_call B.Into (well_item f (well_item g (well_item h (well_item i j))))

  keeps-on_word : (processors : ℕ) (word : Builtin) {xs : List (Value C)} → WellList xs → Keeps Well (on_word processors word xs)
  keeps-on_word processors B.Plus h = keeps-core_call B.Plus h
  keeps-on_word processors B.Times h = keeps-core_call B.Times h
  keeps-on_word processors B.Minus h = keeps-core_call B.Minus h
  keeps-on_word processors B.Inc h = keeps-core_call B.Inc h
  keeps-on_word processors B.Dec h = keeps-core_call B.Dec h
  keeps-on_word processors B.Quot h = keeps-core_call B.Quot h
  keeps-on_word processors B.Rem h = keeps-core_call B.Rem h
  keeps-on_word processors B.Mod h = keeps-core_call B.Mod h
  keeps-on_word processors B.Min h = keeps-core_call B.Min h
  keeps-on_word processors B.Max h = keeps-core_call B.Max h
  keeps-on_word processors B.Less h = keeps-core_call B.Less h
  keeps-on_word processors B.LessOrEqual h = keeps-core_call B.LessOrEqual h
  keeps-on_word processors B.Greater h = keeps-core_call B.Greater h
  keeps-on_word processors B.GreaterOrEqual h = keeps-core_call B.GreaterOrEqual h
  keeps-on_word processors B.IsZero h = keeps-core_call B.IsZero h
  keeps-on_word processors B.IsPositive h = keeps-core_call B.IsPositive h
  keeps-on_word processors B.IsNegative h = keeps-core_call B.IsNegative h
  keeps-on_word processors B.IsEven h = keeps-core_call B.IsEven h
  keeps-on_word processors B.IsOdd h = keeps-core_call B.IsOdd h
  keeps-on_word processors B.IsNil h = keeps-core_call B.IsNil h
  keeps-on_word processors B.IsSome h = keeps-core_call B.IsSome h
  keeps-on_word processors B.IsTrue h = keeps-core_call B.IsTrue h
  keeps-on_word processors B.IsFalse h = keeps-core_call B.IsFalse h
  keeps-on_word processors B.Not h = keeps-core_call B.Not h
  keeps-on_word processors B.IsNumber h = keeps-core_call B.IsNumber h
  keeps-on_word processors B.IsKeyword h = keeps-core_call B.IsKeyword h
  keeps-on_word processors B.IsString h = keeps-core_call B.IsString h
  keeps-on_word processors B.IsVector h = keeps-core_call B.IsVector h
  keeps-on_word processors B.IsFunction h = keeps-core_call B.IsFunction h
  keeps-on_word processors B.Identity h = keeps-core_call B.Identity h
  keeps-on_word processors B.Constantly h = keeps-core_call B.Constantly h
  keeps-on_word processors B.Complement h = keeps-core_call B.Complement h
  keeps-on_word processors B.Partial h = keeps-core_call B.Partial h
  keeps-on_word processors B.Comp h = keeps-core_call B.Comp h
  keeps-on_word processors B.Completing h = keeps-core_call B.Completing h
  keeps-on_word processors B.Monoid h = keeps-core_call B.Monoid h
  keeps-on_word processors B.Vector h = keeps-core_call B.Vector h
  keeps-on_word processors B.List h = keeps-core_call B.List h
  keeps-on_word processors B.Reduced h = keeps-core_call B.Reduced h
  keeps-on_word processors B.IsReduced h = keeps-core_call B.IsReduced h
  keeps-on_word processors B.Unreduced h = keeps-core_call B.Unreduced h
  keeps-on_word processors B.Seq h = keeps-walk_call B.Seq h
  keeps-on_word processors B.First h = keeps-walk_call B.First h
  keeps-on_word processors B.Second h = keeps-walk_call B.Second h
  keeps-on_word processors B.Rest h = keeps-walk_call B.Rest h
  keeps-on_word processors B.Next h = keeps-walk_call B.Next h
  keeps-on_word processors B.Nth h = keeps-walk_call B.Nth h
  keeps-on_word processors B.Last h = keeps-walk_call B.Last h
  keeps-on_word processors B.Count h = keeps-walk_call B.Count h
  keeps-on_word processors B.IsEmpty h = keeps-walk_call B.IsEmpty h
  keeps-on_word processors B.Cons h = keeps-walk_call B.Cons h
  keeps-on_word processors B.Conj h = keeps-walk_call B.Conj h
  keeps-on_word processors B.Vec h = keeps-walk_call B.Vec h
  keeps-on_word processors B.Reverse h = keeps-walk_call B.Reverse h
  keeps-on_word processors B.Doall h = keeps-walk_call B.Doall h
  keeps-on_word processors B.IsEvery h = keeps-walk_call B.IsEvery h
  keeps-on_word processors B.Some h = keeps-walk_call B.Some h
  keeps-on_word processors B.Apply h = keeps-walk_call B.Apply h
  keeps-on_word processors B.Equal h = keeps-walk_call B.Equal h
  keeps-on_word processors B.NotEqual h = keeps-walk_call B.NotEqual h
  keeps-on_word processors B.Map h = keeps-walk_call B.Map h
  keeps-on_word processors B.Filter h = keeps-walk_call B.Filter h
  keeps-on_word processors B.Keep h = keeps-walk_call B.Keep h
  keeps-on_word processors B.Remove h = keeps-walk_call B.Remove h
  keeps-on_word processors B.Take h = keeps-walk_call B.Take h
  keeps-on_word processors B.Drop h = keeps-walk_call B.Drop h
  keeps-on_word processors B.TakeWhile h = keeps-walk_call B.TakeWhile h
  keeps-on_word processors B.DropWhile h = keeps-walk_call B.DropWhile h
  keeps-on_word processors B.Concat h = keeps-walk_call B.Concat h
  keeps-on_word processors B.Mapcat h = keeps-walk_call B.Mapcat h
  keeps-on_word processors B.Iterate h = keeps-walk_call B.Iterate h
  keeps-on_word processors B.Range h = keeps-walk_call B.Range h
  keeps-on_word processors B.Repeat h = keeps-walk_call B.Repeat h
  keeps-on_word processors B.Cycle h = keeps-walk_call B.Cycle h
  keeps-on_word processors B.PartitionAll h = keeps-walk_call B.PartitionAll h
  keeps-on_word processors B.Cat h = keeps-walk_call B.Cat h
  keeps-on_word processors B.Transduce h = keeps-stage_call B.Transduce h
  keeps-on_word processors B.Sequence h = keeps-stage_call B.Sequence h
  keeps-on_word processors B.Pmap h = keeps-ahead_call processors B.Pmap h
  keeps-on_word processors B.Seque h = keeps-ahead_call processors B.Seque h
  keeps-on_word processors B.ReducerMap h = keeps-fold_call B.ReducerMap h
  keeps-on_word processors B.ReducerFilter h = keeps-fold_call B.ReducerFilter h
  keeps-on_word processors B.ReducerRemove h = keeps-fold_call B.ReducerRemove h
  keeps-on_word processors B.ReducerMapcat h = keeps-fold_call B.ReducerMapcat h
  keeps-on_word processors B.ReducerTake h = keeps-fold_call B.ReducerTake h
  keeps-on_word processors B.ReducerTakeWhile h = keeps-fold_call B.ReducerTakeWhile h
  keeps-on_word processors B.Fold h = keeps-fold_call B.Fold h
  keeps-on_word processors B.Reduce h = keeps-reduce_row h
  keeps-on_word processors B.Into h = keeps-into_row h

  keeps-on_call : (processors : ℕ) (t : Target) {bs : List (Value C)} → WellList bs → {xs : List (Value C)} → WellList xs → Keeps Well (on_call processors t bs xs)
  keeps-on_call processors (T.Builtin word) h k = keeps-on_word processors word k
  keeps-on_call processors T.Partial h k = keeps-core_function T.Partial h k
  keeps-on_call processors t h k = keeps-core_function t h k

  keeps-on_term : (size : ℕ) (op : Op) {xs : List (Value C)} → WellList xs → takes op (sights (values xs)) ≡ true → Keeps Well (on_term size op xs)
  keeps-on_term size O.Map h t = keeps-lazy_term size O.Map h t
  keeps-on_term size O.MapN h t = keeps-lazy_term size O.MapN h t
  keeps-on_term size O.Filter h t = keeps-lazy_term size O.Filter h t
  keeps-on_term size O.Keep h t = keeps-lazy_term size O.Keep h t
  keeps-on_term size O.Take h t = keeps-lazy_term size O.Take h t
  keeps-on_term size O.TakeWhile h t = keeps-lazy_term size O.TakeWhile h t
  keeps-on_term size O.Drop h t = keeps-lazy_term size O.Drop h t
  keeps-on_term size O.DropWhile h t = keeps-lazy_term size O.DropWhile h t
  keeps-on_term size O.Concat h t = keeps-lazy_term size O.Concat h t
  keeps-on_term size O.Mapcat h t = keeps-lazy_term size O.Mapcat h t
  keeps-on_term size O.Next h t = keeps-lazy_term size O.Next h t
  keeps-on_term size O.Repeat h t = keeps-lazy_term size O.Repeat h t
  keeps-on_term size O.Cycle h t = keeps-lazy_term size O.Cycle h t
  keeps-on_term size O.Parts h t = keeps-lazy_term size O.Parts h t
  keeps-on_term size O.Pull h t = keeps-pull_term size h t
  keeps-on_term size O.Rets h t = keeps-ahead_term size O.Rets h t
  keeps-on_term size O.Step h t = keeps-ahead_term size O.Step h t
  keeps-on_term size O.Derefs h t = keeps-ahead_term size O.Derefs h t
  keeps-on_term size O.Call h t = keeps-ahead_term size O.Call h t
  keeps-on_term size O.Ahead h t = keeps-ahead_term size O.Ahead h t
  keeps-on_term size O.AheadOf h t = keeps-ahead_term size O.AheadOf h t
  keeps-on_term size O.Near h t = keeps-ahead_term size O.Near h t
  keeps-on_term size O.Fold h t = keeps-fold_term h t
  keeps-on_term size (O.Body b) h t = keeps_throw

  keeps-on_loop : (l : Loop) (xs : List (Value C)) → Variables l xs → KeepsRound (Given l xs) (on_loop l xs)
  keeps-on_loop nth_from xs h = keeps-walk_round nth_from xs h
  keeps-on_loop last_from xs h = keeps-walk_round last_from xs h
  keeps-on_loop count_from xs h = keeps-walk_round count_from xs h
  keeps-on_loop gather_from xs h = keeps-walk_round gather_from xs h
  keeps-on_loop doall_from xs h = keeps-walk_round doall_from xs h
  keeps-on_loop every_from xs h = keeps-walk_round every_from xs h
  keeps-on_loop some_from xs h = keeps-walk_round some_from xs h
  keeps-on_loop equal_from xs h = keeps-walk_round equal_from xs h
  keeps-on_loop reduce_from xs h = keeps-walk_round reduce_from xs h
  keeps-on_loop drop_from xs h = keeps-walk_round drop_from xs h
  keeps-on_loop drop_while_from xs h = keeps-walk_round drop_while_from xs h
  keeps-on_loop parts_from xs h = keeps-walk_round parts_from xs h
  keeps-on_loop enter_from xs h = keeps-stage_round enter_from xs h
  keeps-on_loop pull_from xs h = keeps-stage_round pull_from xs h
  keeps-on_loop ahead_from xs h = keeps-ahead_round ahead_from xs h
  keeps-on_loop print_value xs h = keeps-value_round h
  keeps-on_loop print_rest xs h = keeps-rest_round h

  pub keeps-rules_of : (processors size : ℕ) → KeepsRules {C = C} (rules_of processors size)
  keeps-rules_of processors size = record {
    calls = λ t bs xs h k. keeps-on_call processors t h k;
    terms = λ op xs h t. keeps-on_term size op h t;
    loops = λ l xs h. keeps-on_loop l xs h;
    prints = λ v w. keeps-print_rule w;
  }
