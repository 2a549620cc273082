-- The rows of reducer values and of `fold`.
-- https://clojure.org/reference/reducers
use Rattle.std.specs.Prelude.{ℕ, zero, suc, ◌/◌, ℤ, pos, int_le, Bool, true, false, cond, List, [], ◌∷◌, ◌++◌, length, take, drop}
use Rattle.seq_base.specs.declared.thrown.Thrown.TheVariants.{Arity, BadType, Index}
use Rattle.seq_values.specs.declared.words.Builtin.{Builtin}
use Rattle.seq_values.specs.declared.words.Builtin.TheVariants as B
use Rattle.seq_values.specs.declared.words.FolderKind.{FolderKind}
use Rattle.seq_values.specs.declared.words.FolderKind.TheVariants as F
use Rattle.seq_values.specs.declared.words.Kind.TheVariants.{Future}
use Rattle.seq_values.specs.declared.words.Op.TheVariants as O
use Rattle.seq_values.specs.declared.words.Target.TheVariants as T
use Rattle.seq_values.specs.declared.words.XfKind.TheVariants as X
use Rattle.seq_values.specs.Model.{Value, int, vector, function, no_values, ◌&◌, list, values}
use Rattle.seq_plan.specs.Plan.{Plan, ask, call, give, throw}
use Rattle.seq_plan.specs.Nodes.{give_value, make_term}
use Rattle.seq_plan.specs.Stages.{reduces, fresh, answer_of, enter_each}

module _ {C : Type 0} where
  -- ## Reducer values

  -- A reducer value binds what its word was given: a function or a count, and the collection.
  abbrev pub reducer : FolderKind → Value C → Value C → Value C
  reducer kind f c = function (T.Folder kind) (f & c & no_values)

  abbrev pub is_reducer : Value C → Bool
  is_reducer (function (T.Folder kind) (f & c & no_values)) = true
  is_reducer _ = false

  -- the collection at the bottom
  abbrev pub bottom : Value C → Value C
  bottom (function (T.Folder kind) (f & c & no_values)) = bottom c
  bottom c = c

  -- The stage of a reducer value. All but `take` act as the stages of transducers.
  abbrev pub reducer_stage : FolderKind → Value C → Value C
  reducer_stage F.Map f = function (T.Xf X.Map) (f & no_values)
  reducer_stage F.Filter p = function (T.Xf X.Filter) (p & no_values)
  reducer_stage F.Remove p = function (T.Xf X.Remove) (p & no_values)
  reducer_stage F.Mapcat f = function (T.Xf X.Mapcat) (f & no_values)
  reducer_stage F.TakeWhile p = function (T.Xf X.TakeWhile) (p & no_values)
  reducer_stage F.Take n = function (T.Folder F.Take) (n & no_values)

  -- the stages, from the one nearest the collection outwards; a collection that is no reducer value has none
  abbrev pub reducer_stages : Value C → List (Value C)
  reducer_stages (function (T.Folder kind) (f & c & no_values)) = reducer_stages c ++ reducer_stage kind f ∷ []
  reducer_stages c = []

  -- ## reduce

  -- each element of the collection enters the stages until all is done; there is no completion
  abbrev pub reduce_through : List (Value C) → Value C → Value C → Value C → (Value C → Plan C) → Plan C
  reduce_through stages f init c k = enter_each stages (fresh stages) (reduces f init) c (λ states sink done. k (answer_of sink))

  -- `reduce` with a first answer, of a reducer value or of another collection. Sources: clojure.core's `reduce`, clojure.core.reducers' `reducer` and `folder`.
  abbrev pub reduce_rule : Value C → Value C → Value C → Plan C
  reduce_rule f init c = reduce_through (reducer_stages c) f init (bottom c) give

  -- ## fold

  -- A fold may split a vector, and a reducer value without `take` and `take-while` down to a vector.
  abbrev pub can_split : Value C → Bool
  can_split (vector items) = true
  can_split (function (T.Folder F.Take) bound) = false
  can_split (function (T.Folder F.TakeWhile) bound) = false
  can_split (function (T.Folder kind) (f & c & no_values)) = can_split c
  can_split _ = false

  abbrev pub items_of : Value C → List (Value C)
  items_of (vector items) = list items
  items_of _ = []

  -- A group: the combining function gives the first answer, from which the items are reduced through the stages. An empty vector has that first answer alone. A reduced answer ends its group and no other.
  abbrev pub fold_group : Value C → Value C → List (Value C) → List (Value C) → (Value C → Plan C) → Plan C
  fold_group combine f stages [] k = call combine [] k
  fold_group combine f stages (x ∷ xs) k = call combine [] (λ init. reduce_through stages f init (vector (values (x ∷ xs))) k)

  -- A fold of items, in groups of at most `size`: more items are halved. The second half is a future, which is made before the first half is folded here; then it is asked, and both answers are combined. The first number bounds how often items are halved. Source: clojure.core.reducers' `foldvec`.
  abbrev pub fold_at_most : ℕ → ℤ → Value C → Value C → List (Value C) → List (Value C) → (Value C → Plan C) → Plan C
  fold_at_most zero size combine f stages items k = fold_group combine f stages items k
  fold_at_most (suc times) size combine f stages items k =
      let half = length items / 2 in
      cond (int_le (pos (length items)) size)
      (fold_group combine f stages items k)
      (make_term Future O.Fold (vector (values (drop half items)) ∷ int size ∷ combine ∷ f ∷ stages) (λ m.
      fold_at_most times size combine f stages (take half items) (λ left.
      ask m (λ right. call combine (left ∷ right ∷ []) k))))

  -- the action `fold`: items are halved fewer times than there are items
  abbrev pub fold_items : ℤ → Value C → Value C → List (Value C) → List (Value C) → (Value C → Plan C) → Plan C
  fold_items size combine f stages items k = fold_at_most (length items) size combine f stages items k

  -- `r/fold`: what can't be split is reduced from the combining function's first answer. Source: clojure.core.reducers' `fold`.
  abbrev pub fold_rule : ℤ → Value C → Value C → Value C → Plan C
  fold_rule size combine f c =
      cond (can_split c)
      (fold_items size combine f (reducer_stages c) (items_of (bottom c)) give)
      (call combine [] (λ init. reduce_rule f init c))

  -- the future Fold: the vector of its items, the size of a group, the combining and the reducing function, and the stages
  abbrev pub fold_term : List (Value C) → Plan C
  fold_term (vector items ∷ int size ∷ combine ∷ f ∷ stages) = fold_items size combine f stages (list items) give
  fold_term _ = throw BadType

  -- ## The words

  -- `r/take` takes an integer
  abbrev pub take_of : Value C → Value C → Plan C
  take_of (int n) c = give_value (reducer F.Take (int n) c)
  take_of _ c = throw BadType

  -- the size of a group is an integer of at least 1
  abbrev pub fold_in : Value C → Value C → Value C → Value C → Plan C
  fold_in (int size) combine f c = cond (int_le (pos 1) size) (fold_rule size combine f c) (throw Index)
  fold_in _ combine f c = throw BadType

  -- The size of a group is 512 where none is given. `reduce`, and `into` without a transducer, stand here for a reducer value as collection; `into` is `reduce` by `conj`. Sources: clojure.core.reducers' `map`, `filter`, `remove`, `mapcat`, `take`, `take-while` and `fold`, clojure.core's `reduce` and `into`.
  abbrev pub fold_call : Builtin → List (Value C) → Plan C
  fold_call B.ReducerMap (f ∷ c ∷ []) = give_value (reducer F.Map f c)
  fold_call B.ReducerFilter (p ∷ c ∷ []) = give_value (reducer F.Filter p c)
  fold_call B.ReducerRemove (p ∷ c ∷ []) = give_value (reducer F.Remove p c)
  fold_call B.ReducerMapcat (f ∷ c ∷ []) = give_value (reducer F.Mapcat f c)
  fold_call B.ReducerTake (n ∷ c ∷ []) = take_of n c
  fold_call B.ReducerTakeWhile (p ∷ c ∷ []) = give_value (reducer F.TakeWhile p c)
  fold_call B.Reduce (f ∷ c ∷ []) = call f [] (λ init. reduce_rule f init c)
  fold_call B.Reduce (f ∷ init ∷ c ∷ []) = reduce_rule f init c
  fold_call B.Into (to ∷ c ∷ []) = reduce_rule (function (T.Builtin B.Conj) no_values) to c
  fold_call B.Fold (f ∷ c ∷ []) = fold_rule (pos 512) f f c
  fold_call B.Fold (combine ∷ f ∷ c ∷ []) = fold_rule (pos 512) combine f c
  fold_call B.Fold (n ∷ combine ∷ f ∷ c ∷ []) = fold_in n combine f c
  fold_call _ _ = throw Arity
