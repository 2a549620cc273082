-- The table looks at cells only to ask them.
use Rattle.std.proofs.Common.{◌≡◌, ℕ, cond, List, refl, subst}
use Rattle.seq_values.specs.declared.words.Builtin.{Builtin}
use Rattle.seq_values.specs.declared.words.Builtin.TheVariants as B
use Rattle.seq_values.specs.declared.words.Op.{Op}
use Rattle.seq_values.specs.declared.words.Op.TheVariants as O
use Rattle.seq_values.specs.declared.words.Target.{Target}
use Rattle.seq_values.specs.declared.words.Target.TheVariants as T
use Rattle.seq_values.specs.Model.{Value}
use Rattle.seq_plan.specs.Plan.{Loop, nth_from, last_from, count_from, gather_from, doall_from, every_from, some_from, equal_from, reduce_from, enter_from, drop_from, drop_while_from, parts_from, pull_from, ahead_from, print_value, print_rest}
use Rattle.seq_plan.specs.Alike.{Likeness, Like, like_function, like_none, like_more, LikeList, like_end, like_item, LikePlan, like_throw, LikeRound, LikeRules}
use Rattle.seq_plan.proofs.AlikeNodes.{like-cond}
use Rattle.core_rows.proofs.AlikeCore.{like-core_call, like-core_function}
use Rattle.lazy_rows.proofs.AlikeTable.{like-walk_call, like-lazy_term, like-walk_round}
use Rattle.stage_rows.proofs.AlikeTable.{like-stage_call, like-pull_term, like-stage_round}
use Rattle.ahead_rows.proofs.AlikeAhead.{like-ahead_call, like-ahead_term, like-ahead_round}
use Rattle.lazy_rows.specs.Table.{walk_call}
use Rattle.fold_rows.specs.Table.{is_reducer, fold_call}
use Rattle.fold_rows.proofs.AlikeTable.{like-fold_call, like-fold_term}
use Rattle.seq_meaning.proofs.AlikePrints.{like-value_round, like-rest_round, like-print_rule}
use Rattle.seq_table.specs.Table.{over, reduce_row, into_row, on_word, on_call, on_term, on_loop, rules_of}

module _ {C D : Type 0} {R : Likeness C D} where
  like-is_reducer : {v : Value C} {w : Value D} → Like R v w → is_reducer v ≡ is_reducer w
  like-is_reducer (like_function {t = T.Folder kind} (like_more f (like_more c like_none))) = refl
  like-is_reducer (like_function {t = T.Folder kind} like_none) = refl
  like-is_reducer (like_function {t = T.Folder kind} (like_more f like_none)) = refl
  like-is_reducer (like_function {t = T.Folder kind} (like_more f (like_more c (like_more x h)))) = refl
  like-is_reducer (like_function h) = refl
  like-is_reducer _ = refl

  like-over : (word : Builtin) {v : Value C} {w : Value D} → Like R v w → {xs : List (Value C)} {ys : List (Value D)} → LikeList R xs ys → LikePlan R (over word v xs) (over word w ys)
  like-over word {v = v} {w = w} e {xs = xs} {ys = ys} h = subst (λ b. LikePlan R (over word v xs) (cond b (fold_call word ys) (walk_call word ys))) (like-is_reducer e) (like-cond (is_reducer v) (like-fold_call word h) (like-walk_call word h))

  like-reduce_row : {xs : List (Value C)} {ys : List (Value D)} → LikeList R xs ys → LikePlan R (reduce_row xs) (reduce_row ys)
  like-reduce_row (like_item f (like_item c like_end)) = like-over B.Reduce c (like_item f (like_item c like_end))
  like-reduce_row (like_item f (like_item i (like_item c like_end))) = like-over B.Reduce c (like_item f (like_item i (like_item c like_end)))
  like-reduce_row like_end = like-walk_call B.Reduce like_end
  like-reduce_row (like_item f like_end) = like-walk_call B.Reduce (like_item f like_end)
  like-reduce_row (like_item f (like_item g (like_item h (like_item i j)))) = like-walk_call B.Reduce (like_item f (like_item g (like_item h (like_item i j))))

  like-into_row : {xs : List (Value C)} {ys : List (Value D)} → LikeList R xs ys → LikePlan R (into_row xs) (into_row ys)
  like-into_row (like_item f (like_item c like_end)) = like-over B.Into c (like_item f (like_item c like_end))
  like-into_row (like_item f (like_item i (like_item c like_end))) = like-stage_call B.Into (like_item f (like_item i (like_item c like_end)))
  like-into_row like_end = like-walk_call B.Into like_end
  like-into_row (like_item f like_end) = like-walk_call B.Into (like_item f like_end)
  like-into_row (like_item f (like_item g (like_item h (like_item i j)))) = like-walk_call B.Into (like_item f (like_item g (like_item h (like_item i j))))

  like-on_word : (processors : ℕ) (word : Builtin) {xs : List (Value C)} {ys : List (Value D)} → LikeList R xs ys → LikePlan R (on_word processors word xs) (on_word processors word ys)
  like-on_word processors B.Plus h = like-core_call B.Plus h
  like-on_word processors B.Times h = like-core_call B.Times h
  like-on_word processors B.Minus h = like-core_call B.Minus h
  like-on_word processors B.Inc h = like-core_call B.Inc h
  like-on_word processors B.Dec h = like-core_call B.Dec h
  like-on_word processors B.Quot h = like-core_call B.Quot h
  like-on_word processors B.Rem h = like-core_call B.Rem h
  like-on_word processors B.Mod h = like-core_call B.Mod h
  like-on_word processors B.Min h = like-core_call B.Min h
  like-on_word processors B.Max h = like-core_call B.Max h
  like-on_word processors B.Less h = like-core_call B.Less h
  like-on_word processors B.LessOrEqual h = like-core_call B.LessOrEqual h
  like-on_word processors B.Greater h = like-core_call B.Greater h
  like-on_word processors B.GreaterOrEqual h = like-core_call B.GreaterOrEqual h
  like-on_word processors B.IsZero h = like-core_call B.IsZero h
  like-on_word processors B.IsPositive h = like-core_call B.IsPositive h
  like-on_word processors B.IsNegative h = like-core_call B.IsNegative h
  like-on_word processors B.IsEven h = like-core_call B.IsEven h
  like-on_word processors B.IsOdd h = like-core_call B.IsOdd h
  like-on_word processors B.IsNil h = like-core_call B.IsNil h
  like-on_word processors B.IsSome h = like-core_call B.IsSome h
  like-on_word processors B.IsTrue h = like-core_call B.IsTrue h
  like-on_word processors B.IsFalse h = like-core_call B.IsFalse h
  like-on_word processors B.Not h = like-core_call B.Not h
  like-on_word processors B.IsNumber h = like-core_call B.IsNumber h
  like-on_word processors B.IsKeyword h = like-core_call B.IsKeyword h
  like-on_word processors B.IsString h = like-core_call B.IsString h
  like-on_word processors B.IsVector h = like-core_call B.IsVector h
  like-on_word processors B.IsFunction h = like-core_call B.IsFunction h
  like-on_word processors B.Identity h = like-core_call B.Identity h
  like-on_word processors B.Constantly h = like-core_call B.Constantly h
  like-on_word processors B.Complement h = like-core_call B.Complement h
  like-on_word processors B.Partial h = like-core_call B.Partial h
  like-on_word processors B.Comp h = like-core_call B.Comp h
  like-on_word processors B.Completing h = like-core_call B.Completing h
  like-on_word processors B.Monoid h = like-core_call B.Monoid h
  like-on_word processors B.Vector h = like-core_call B.Vector h
  like-on_word processors B.List h = like-core_call B.List h
  like-on_word processors B.Reduced h = like-core_call B.Reduced h
  like-on_word processors B.IsReduced h = like-core_call B.IsReduced h
  like-on_word processors B.Unreduced h = like-core_call B.Unreduced h
  like-on_word processors B.Seq h = like-walk_call B.Seq h
  like-on_word processors B.First h = like-walk_call B.First h
  like-on_word processors B.Second h = like-walk_call B.Second h
  like-on_word processors B.Rest h = like-walk_call B.Rest h
  like-on_word processors B.Next h = like-walk_call B.Next h
  like-on_word processors B.Nth h = like-walk_call B.Nth h
  like-on_word processors B.Last h = like-walk_call B.Last h
  like-on_word processors B.Count h = like-walk_call B.Count h
  like-on_word processors B.IsEmpty h = like-walk_call B.IsEmpty h
  like-on_word processors B.Cons h = like-walk_call B.Cons h
  like-on_word processors B.Conj h = like-walk_call B.Conj h
  like-on_word processors B.Vec h = like-walk_call B.Vec h
  like-on_word processors B.Reverse h = like-walk_call B.Reverse h
  like-on_word processors B.Doall h = like-walk_call B.Doall h
  like-on_word processors B.IsEvery h = like-walk_call B.IsEvery h
  like-on_word processors B.Some h = like-walk_call B.Some h
  like-on_word processors B.Apply h = like-walk_call B.Apply h
  like-on_word processors B.Equal h = like-walk_call B.Equal h
  like-on_word processors B.NotEqual h = like-walk_call B.NotEqual h
  like-on_word processors B.Map h = like-walk_call B.Map h
  like-on_word processors B.Filter h = like-walk_call B.Filter h
  like-on_word processors B.Keep h = like-walk_call B.Keep h
  like-on_word processors B.Remove h = like-walk_call B.Remove h
  like-on_word processors B.Take h = like-walk_call B.Take h
  like-on_word processors B.Drop h = like-walk_call B.Drop h
  like-on_word processors B.TakeWhile h = like-walk_call B.TakeWhile h
  like-on_word processors B.DropWhile h = like-walk_call B.DropWhile h
  like-on_word processors B.Concat h = like-walk_call B.Concat h
  like-on_word processors B.Mapcat h = like-walk_call B.Mapcat h
  like-on_word processors B.Iterate h = like-walk_call B.Iterate h
  like-on_word processors B.Range h = like-walk_call B.Range h
  like-on_word processors B.Repeat h = like-walk_call B.Repeat h
  like-on_word processors B.Cycle h = like-walk_call B.Cycle h
  like-on_word processors B.PartitionAll h = like-walk_call B.PartitionAll h
  like-on_word processors B.Cat h = like-walk_call B.Cat h
  like-on_word processors B.Transduce h = like-stage_call B.Transduce h
  like-on_word processors B.Sequence h = like-stage_call B.Sequence h
  like-on_word processors B.Pmap h = like-ahead_call processors B.Pmap h
  like-on_word processors B.Seque h = like-ahead_call processors B.Seque h
  like-on_word processors B.ReducerMap h = like-fold_call B.ReducerMap h
  like-on_word processors B.ReducerFilter h = like-fold_call B.ReducerFilter h
  like-on_word processors B.ReducerRemove h = like-fold_call B.ReducerRemove h
  like-on_word processors B.ReducerMapcat h = like-fold_call B.ReducerMapcat h
  like-on_word processors B.ReducerTake h = like-fold_call B.ReducerTake h
  like-on_word processors B.ReducerTakeWhile h = like-fold_call B.ReducerTakeWhile h
  like-on_word processors B.Fold h = like-fold_call B.Fold h
  like-on_word processors B.Reduce h = like-reduce_row h
  like-on_word processors B.Into h = like-into_row h

  like-on_call : (processors : ℕ) (t : Target) {bs : List (Value C)} {cs : List (Value D)} → LikeList R bs cs → {xs : List (Value C)} {ys : List (Value D)} → LikeList R xs ys → LikePlan R (on_call processors t bs xs) (on_call processors t cs ys)
  like-on_call processors (T.Builtin word) h k = like-on_word processors word k
  like-on_call processors T.Partial h k = like-core_function T.Partial h k
  like-on_call processors t h k = like-core_function t h k

  like-on_term : (size : ℕ) (op : Op) {xs : List (Value C)} {ys : List (Value D)} → LikeList R xs ys → LikePlan R (on_term size op xs) (on_term size op ys)
  like-on_term size O.Map h = like-lazy_term size O.Map h
  like-on_term size O.MapN h = like-lazy_term size O.MapN h
  like-on_term size O.Filter h = like-lazy_term size O.Filter h
  like-on_term size O.Keep h = like-lazy_term size O.Keep h
  like-on_term size O.Take h = like-lazy_term size O.Take h
  like-on_term size O.TakeWhile h = like-lazy_term size O.TakeWhile h
  like-on_term size O.Drop h = like-lazy_term size O.Drop h
  like-on_term size O.DropWhile h = like-lazy_term size O.DropWhile h
  like-on_term size O.Concat h = like-lazy_term size O.Concat h
  like-on_term size O.Mapcat h = like-lazy_term size O.Mapcat h
  like-on_term size O.Next h = like-lazy_term size O.Next h
  like-on_term size O.Repeat h = like-lazy_term size O.Repeat h
  like-on_term size O.Cycle h = like-lazy_term size O.Cycle h
  like-on_term size O.Parts h = like-lazy_term size O.Parts h
  like-on_term size O.Pull h = like-pull_term size h
  like-on_term size O.Rets h = like-ahead_term size O.Rets h
  like-on_term size O.Step h = like-ahead_term size O.Step h
  like-on_term size O.Derefs h = like-ahead_term size O.Derefs h
  like-on_term size O.Call h = like-ahead_term size O.Call h
  like-on_term size O.Ahead h = like-ahead_term size O.Ahead h
  like-on_term size O.AheadOf h = like-ahead_term size O.AheadOf h
  like-on_term size O.Near h = like-ahead_term size O.Near h
  like-on_term size O.Fold h = like-fold_term h
  like-on_term size (O.Body b) h = like_throw

  like-on_loop : (l : Loop) {xs : List (Value C)} {ys : List (Value D)} → LikeList R xs ys → LikeRound R (on_loop l xs) (on_loop l ys)
  like-on_loop nth_from h = like-walk_round nth_from h
  like-on_loop last_from h = like-walk_round last_from h
  like-on_loop count_from h = like-walk_round count_from h
  like-on_loop gather_from h = like-walk_round gather_from h
  like-on_loop doall_from h = like-walk_round doall_from h
  like-on_loop every_from h = like-walk_round every_from h
  like-on_loop some_from h = like-walk_round some_from h
  like-on_loop equal_from h = like-walk_round equal_from h
  like-on_loop reduce_from h = like-walk_round reduce_from h
  like-on_loop drop_from h = like-walk_round drop_from h
  like-on_loop drop_while_from h = like-walk_round drop_while_from h
  like-on_loop parts_from h = like-walk_round parts_from h
  like-on_loop enter_from h = like-stage_round enter_from h
  like-on_loop pull_from h = like-stage_round pull_from h
  like-on_loop ahead_from h = like-ahead_round ahead_from h
  like-on_loop print_value h = like-value_round h
  like-on_loop print_rest h = like-rest_round h

  pub like-rules_of : (processors size : ℕ) → LikeRules R (rules_of processors size) (rules_of processors size)
  like-rules_of processors size = record {
    calls = λ t bs cs xs ys h k. like-on_call processors t h k;
    terms = λ op xs ys h. like-on_term size op h;
    loops = λ l xs ys h. like-on_loop l h;
    prints = λ v w h. like-print_rule h;
  }
