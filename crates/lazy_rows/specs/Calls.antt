-- The words of lazy operations: what each call makes, and gives. Each is the function of its name in clojure.core (https://clojure.org/reference/sequences). With one argument fewer, most of them give a transducer (https://clojure.org/reference/transducers).
use Rattle.std.specs.Prelude.{pos, List, [], ◌∷◌}
use Rattle.seq_base.specs.declared.thrown.Thrown.TheVariants.{Arity, BadType}
use Rattle.seq_values.specs.declared.words.Builtin.TheVariants as B
use Rattle.seq_values.specs.declared.words.Kind.TheVariants.{Lazy}
use Rattle.seq_values.specs.declared.words.Op.{Op}
use Rattle.seq_values.specs.declared.words.Op.TheVariants as O
use Rattle.seq_values.specs.declared.words.Target.TheVariants as T
use Rattle.seq_values.specs.declared.words.XfKind.{XfKind}
use Rattle.seq_values.specs.declared.words.XfKind.TheVariants as X
use Rattle.seq_values.specs.Model.{Value, int, function, cell, no_values, ◌&◌, values}
use Rattle.seq_plan.specs.Plan.{Plan, give, throw}
use Rattle.seq_plan.specs.Nodes.{range_at, with_value, give_value, make_term}
use Rattle.seq_plan.specs.Lists.{lazily, first_and}
use Rattle.seq_plan.specs.Arguments.{at_least_one}

module _ {C : Type 0} where
  -- gives a transducer of one stage with what is bound to it
  abbrev pub give_stage : XfKind → List (Value C) → Plan C
  give_stage kind xs = give_value (function (T.Xf kind) (values xs))

  -- `filter`, `keep`, `take-while`, `drop-while`, `mapcat`: a function and a collection
  abbrev pub with_function : Op → XfKind → List (Value C) → Plan C
  with_function op kind (f ∷ []) = give_stage kind (f ∷ [])
  with_function op kind (f ∷ c ∷ []) = lazily op (f ∷ c ∷ [])
  with_function op kind _ = throw Arity

  -- `map`: a function and one to four collections
  abbrev pub map_call : List (Value C) → Plan C
  map_call (f ∷ c ∷ d ∷ []) = lazily O.MapN (f ∷ c ∷ d ∷ [])
  map_call (f ∷ c ∷ d ∷ e ∷ []) = lazily O.MapN (f ∷ c ∷ d ∷ e ∷ [])
  map_call (f ∷ c ∷ d ∷ e ∷ g ∷ []) = lazily O.MapN (f ∷ c ∷ d ∷ e ∷ g ∷ [])
  map_call xs = with_function O.Map X.Map xs

  -- `remove` filters by the complement of its function
  abbrev pub remove_call : List (Value C) → Plan C
  remove_call (p ∷ []) = give_stage X.Remove (p ∷ [])
  remove_call (p ∷ c ∷ []) = with_value (function T.Complement (p & no_values)) (λ q. lazily O.Filter (q ∷ c ∷ []))
  remove_call _ = throw Arity

  -- `take`, `drop`: a count, which is an integer, and a collection
  abbrev pub with_count : Op → XfKind → List (Value C) → Plan C
  with_count op kind (int n ∷ []) = give_stage kind (int n ∷ [])
  with_count op kind (int n ∷ c ∷ []) = lazily op (int n ∷ c ∷ [])
  with_count op kind (_ ∷ []) = throw BadType
  with_count op kind (_ ∷ c ∷ []) = throw BadType
  with_count op kind _ = throw Arity

  -- `partition-all`: the size of a group, which is at least 1, and a collection
  abbrev pub partition_call : List (Value C) → Plan C
  partition_call (int n ∷ []) = at_least_one n (give_stage X.PartitionAll (int n ∷ []))
  partition_call (int n ∷ c ∷ []) = at_least_one n (lazily O.Parts (int n ∷ c ∷ []))
  partition_call (_ ∷ []) = throw BadType
  partition_call (_ ∷ c ∷ []) = throw BadType
  partition_call _ = throw Arity

  -- `iterate`: x, and f of it, and so on
  abbrev pub iterate_rule : Value C → Value C → Plan C
  iterate_rule f x = first_and x O.Next (f ∷ x ∷ [])

  abbrev pub iterate_call : List (Value C) → Plan C
  iterate_call (f ∷ x ∷ []) = iterate_rule f x
  iterate_call _ = throw Arity

  -- `range`: without bounds as `(iterate inc 0)`; else the integers from 0 or the first bound up to the last one, and no part is made
  abbrev pub range_call : List (Value C) → Plan C
  range_call [] = iterate_rule (function (T.Builtin B.Inc) no_values) (int (pos 0))
  range_call (int b ∷ []) = give (range_at (pos 0) (pos 0) b)
  range_call (int a ∷ int b ∷ []) = give (range_at a a b)
  range_call (_ ∷ []) = throw BadType
  range_call (_ ∷ _ ∷ []) = throw BadType
  range_call _ = throw Arity

  -- `repeat`: x without end, or the first n of that
  abbrev pub repeat_call : List (Value C) → Plan C
  repeat_call (x ∷ []) = lazily O.Repeat (x ∷ [])
  repeat_call (int n ∷ x ∷ []) = make_term Lazy O.Repeat (x ∷ []) (λ m. lazily O.Take (int n ∷ cell m ∷ []))
  repeat_call (_ ∷ x ∷ []) = throw BadType
  repeat_call _ = throw Arity

  -- `cycle`: the whole collection, and what is left of this round
  abbrev pub cycle_call : List (Value C) → Plan C
  cycle_call (c ∷ []) = lazily O.Cycle (c ∷ c ∷ [])
  cycle_call _ = throw Arity
