-- The words that walk a collection, each as the function of its name in clojure.core (https://clojure.org/reference/sequences).
-- A walk takes the seq of its collection; while that isn't nil it takes an own step, uses the first element, and goes on with the seq of the rest. What a loop's variables are is said at its round.
use Rattle.std.specs.Prelude.{◌-◌, true, false, ℤ, pos, ◌+ℤ◌, ◌-ℤ◌, int_lt, int_le, unsigned_abs, ◌&&◌, cond, List, [], ◌∷◌, ◌++◌, length, reverse}
use Rattle.seq_base.specs.declared.thrown.Thrown.TheVariants.{Overflow, Arity, BadType, Index}
use Rattle.seq_values.specs.declared.words.Builtin.TheVariants as B
use Rattle.seq_values.specs.declared.words.Target.TheVariants as T
use Rattle.seq_values.specs.Model.{Value, nil, bool, int, vector, function, reduced, cell, empty, range, vec_seq, no_values, list, values}
use Rattle.seq_plan.specs.Plan.{Plan, visit, seq, call, go, give, throw, nth_from, last_from, count_from, gather_from, doall_from, every_from, some_from, reduce_from, Round, ends_with, fails, visits, plan_of}
use Rattle.seq_plan.specs.Nodes.{value_at, first_of, rest_of, is_nil, if_true, if_nil, round_at, with_value, give_value, with_members}
use Rattle.seq_plan.specs.Lists.{list_of, with_first}

-- no count is greater
abbrev pub greatest : ℤ
greatest = pos 9223372036854775807

module _ {C : Type 0} where
  -- ## seq, first, second, rest, next, empty?

  -- nil where there is no element
  abbrev pub first_rule : Value C → Plan C
  first_rule x = seq x (λ s. if_nil s (give nil) (give (first_of s)))

  -- the first element of the rest
  abbrev pub second_rule : Value C → Plan C
  second_rule x = seq x (λ s. if_nil s (give nil) (first_rule (rest_of s)))

  -- `()` where there is no element
  abbrev pub rest_rule : Value C → Plan C
  rest_rule x = seq x (λ s. if_nil s (give empty) (give (rest_of s)))

  -- as `rest`, and the seq of that
  abbrev pub next_rule : Value C → Plan C
  next_rule x = seq x (λ s. if_nil s (give nil) (seq (rest_of s) give))

  -- whether there is no element
  abbrev pub empty_rule : Value C → Plan C
  empty_rule x = seq x (λ s. give (bool (is_nil s)))

  -- ## nth

  -- A failure gives the default where one is given.
  abbrev pub failing : List (Value C) → Round C
  failing [] = fails Index
  failing (d ∷ ds) = ends_with d

  -- nil has nil at every place, or the default
  abbrev pub nth_of_nil : List (Value C) → Plan C
  nth_of_nil [] = give nil
  nth_of_nil (d ∷ ds) = give d

  -- a place outside a vector fails, and nothing is walked
  abbrev pub nth_of_vector : ℤ → List (Value C) → List (Value C) → Plan C
  nth_of_vector i ds xs = cond (int_le (pos 0) i && int_lt i (pos (length xs))) (give (value_at xs (unsigned_abs i))) (plan_of (failing ds))

  -- of another collection the seq comes first, and then a place below 0 fails
  abbrev pub nth_rule : ℤ → List (Value C) → Value C → Plan C
  nth_rule i ds nil = nth_of_nil ds
  nth_rule i ds (vector xs) = nth_of_vector i ds (list xs)
  nth_rule i ds c = seq c (λ s. cond (int_lt i (pos 0)) (plan_of (failing ds)) (go nth_from (int i ∷ s ∷ ds) give))

  -- a collection, a place, and a default or none
  abbrev pub nth_call : List (Value C) → Plan C
  nth_call (c ∷ int i ∷ []) = nth_rule i [] c
  nth_call (c ∷ int i ∷ d ∷ []) = nth_rule i (d ∷ []) c
  nth_call (c ∷ _ ∷ []) = throw BadType
  nth_call (c ∷ _ ∷ d ∷ []) = throw BadType
  nth_call _ = throw Arity

  -- how many elements come before the one that is asked for, the seq, and the default if there is one
  abbrev pub nth_round : List (Value C) → Round C
  nth_round (int n ∷ s ∷ ds) =
      round_at s
      (failing ds)
      (cond (int_le n (pos 0))
      (ends_with (first_of s))
      (visits (seq (rest_of s) (λ t. go nth_from (int (n -ℤ pos 1) ∷ t ∷ ds) give))))
  nth_round _ = fails BadType

  -- ## last, count

  -- nil where there is no element
  abbrev pub last_rule : Value C → Plan C
  last_rule c = seq c (λ s. go last_from (nil ∷ s ∷ []) give)

  -- the last element so far and the seq
  abbrev pub last_round : List (Value C) → Round C
  last_round (x ∷ s ∷ []) = round_at s (ends_with x) (visits (seq (rest_of s) (λ t. go last_from (first_of s ∷ t ∷ []) give)))
  last_round _ = fails BadType

  -- a vector knows its length
  abbrev pub count_rule : Value C → Plan C
  count_rule nil = give (int (pos 0))
  count_rule (vector xs) = give (int (pos (length (list xs))))
  count_rule c = seq c (λ s. go count_from (int (pos 0) ∷ s ∷ []) give)

  -- the count may not pass the greatest integer
  abbrev pub count_ends : ℤ → Round C
  count_ends n = cond (int_le n greatest) (ends_with (int n)) (fails Overflow)

  abbrev pub count_goes_on : ℤ → Value C → Plan C
  count_goes_on n s = cond (int_le n greatest) (seq (rest_of s) (λ t. go count_from (int n ∷ t ∷ []) give)) (throw Overflow)

  -- a range and a vector's seq add all that remains at once, without an own step
  abbrev pub count_on : ℤ → Value C → Round C
  count_on n nil = ends_with (int n)
  count_on n (range from at end) = count_ends (n +ℤ (end -ℤ at))
  count_on n (vec_seq xs at) = count_ends (n +ℤ pos (length (list xs) - at))
  count_on n s = visits (count_goes_on (n +ℤ pos 1) s)

  -- the count so far and the seq
  abbrev pub count_round : List (Value C) → Round C
  count_round (int n ∷ s ∷ []) = count_on n s
  count_round _ = fails BadType

  -- ## vec, reverse, apply: all elements are gathered

  -- the elements so far, as a vector, and the seq
  abbrev pub gather_round : List (Value C) → Round C
  gather_round (vector xs ∷ s ∷ []) =
      round_at s
      (ends_with (vector xs))
      (visits (with_members (list xs ++ first_of s ∷ []) (λ ys. seq (rest_of s) (λ t. go gather_from (vector (values ys) ∷ t ∷ []) give))))
  gather_round _ = fails BadType

  abbrev pub members : Value C → List (Value C)
  members (vector xs) = list xs
  members _ = []

  -- walks a collection, and goes on with its elements after those that are there
  abbrev pub gather : List (Value C) → Value C → (List (Value C) → Plan C) → Plan C
  gather xs c k = seq c (λ s. go gather_from (vector (values xs) ∷ s ∷ []) (λ v. k (members v)))

  -- a vector is itself
  abbrev pub vec_rule : Value C → Plan C
  vec_rule (vector xs) = give (vector xs)
  vec_rule c = gather [] c (λ xs. give_value (vector (values xs)))

  -- a list, and `()` where there is no element
  abbrev pub reverse_rule : Value C → Plan C
  reverse_rule c = gather [] c (λ xs. give_value (list_of (reverse xs)))

  -- f is called with the arguments before the collection and all elements of it. Unlike Clojure's, it walks the whole collection first.
  abbrev pub apply_rule : Value C → List (Value C) → List (Value C) → Plan C
  apply_rule f xs [] = throw Arity
  apply_rule f xs (c ∷ []) = gather xs c (λ ys. call f ys give)
  apply_rule f xs (x ∷ y ∷ ys) = apply_rule f (xs ++ x ∷ []) (y ∷ ys)

  abbrev pub apply_call : List (Value C) → Plan C
  apply_call [] = throw Arity
  apply_call (f ∷ xs) = apply_rule f [] xs

  -- ## doall, every?, some

  -- walks the collection, and gives it
  abbrev pub doall_rule : Value C → Plan C
  doall_rule c = seq c (λ s. go doall_from (c ∷ s ∷ []) give)

  -- the collection and the seq
  abbrev pub doall_round : List (Value C) → Round C
  doall_round (c ∷ s ∷ []) = round_at s (ends_with c) (visits (seq (rest_of s) (λ t. go doall_from (c ∷ t ∷ []) give)))
  doall_round _ = fails BadType

  -- `every?`: true or false
  abbrev pub every_call : List (Value C) → Plan C
  every_call (p ∷ c ∷ []) = seq c (λ s. go every_from (p ∷ s ∷ []) give)
  every_call _ = throw Arity

  -- the function and the seq; ends at the first element of which it isn't so
  abbrev pub every_round : List (Value C) → Round C
  every_round (p ∷ s ∷ []) =
      round_at s
      (ends_with (bool true))
      (visits (call p (first_of s ∷ []) (λ y. if_true y (seq (rest_of s) (λ t. go every_from (p ∷ t ∷ []) give)) (give (bool false)))))
  every_round _ = fails BadType

  -- `some`: the first true answer, or nil
  abbrev pub some_call : List (Value C) → Plan C
  some_call (p ∷ c ∷ []) = seq c (λ s. go some_from (p ∷ s ∷ []) give)
  some_call _ = throw Arity

  -- the function and the seq; ends with the first answer that is true
  abbrev pub some_round : List (Value C) → Round C
  some_round (p ∷ s ∷ []) =
      round_at s
      (ends_with nil)
      (visits (call p (first_of s ∷ []) (λ y. if_true y (give y) (seq (rest_of s) (λ t. go some_from (p ∷ t ∷ []) give)))))
  some_round _ = fails BadType

  -- ## cons, conj

  abbrev pub cons_call : List (Value C) → Plan C
  cons_call (x ∷ c ∷ []) = with_first x c give
  cons_call _ = throw Arity

  -- at the end of a vector, before nil and before a node
  abbrev pub with_one_more : Value C → Value C → (Value C → Plan C) → Plan C
  with_one_more (vector xs) x k = with_members (list xs ++ x ∷ []) (λ ys. with_value (vector (values ys)) k)
  with_one_more s x k = with_first x s k

  -- one after the other
  abbrev pub conj_each : Value C → List (Value C) → Plan C
  conj_each c [] = give c
  conj_each c (x ∷ xs) = with_one_more c x (λ d. conj_each d xs)

  -- a lazy cell counts as its seq
  abbrev pub conj_rule : Value C → List (Value C) → Plan C
  conj_rule (cell m) xs = seq (cell m) (λ s. conj_each s xs)
  conj_rule c xs = conj_each c xs

  -- without arguments an empty vector; a collection alone is itself
  abbrev pub conj_call : List (Value C) → Plan C
  conj_call [] = give (vector no_values)
  conj_call (c ∷ []) = give c
  conj_call (c ∷ x ∷ xs) = conj_rule c (x ∷ xs)

  -- ## reduce, into

  -- a reduced answer ends a reduction with its value
  abbrev pub unless_reduced : Value C → Plan C → Plan C
  unless_reduced (reduced v) p = give v
  unless_reduced _ p = p

  -- the function, the value so far and the seq
  abbrev pub reduce_round : List (Value C) → Round C
  reduce_round (f ∷ acc ∷ s ∷ []) =
      round_at s
      (ends_with acc)
      (visits (call f (acc ∷ first_of s ∷ []) (λ y. unless_reduced y (seq (rest_of s) (λ t. go reduce_from (f ∷ y ∷ t ∷ []) give)))))
  reduce_round _ = fails BadType

  abbrev pub reduce_rule : Value C → Value C → Value C → Plan C
  reduce_rule f i c = seq c (λ s. go reduce_from (f ∷ i ∷ s ∷ []) give)

  -- Without a first value the first element is it, and f without arguments gives the answer where there is none. A reducer's reduction stands with the reducers.
  abbrev pub reduce_call : List (Value C) → Plan C
  reduce_call (f ∷ c ∷ []) =
      seq c (λ s. if_nil s
      (call f [] give)
      (visit (seq (rest_of s) (λ t. go reduce_from (f ∷ first_of s ∷ t ∷ []) give))))
  reduce_call (f ∷ i ∷ c ∷ []) = reduce_rule f i c
  reduce_call _ = throw Arity

  -- as `reduce` by `conj`; that with a transducer stands with the transducers
  abbrev pub into_call : List (Value C) → Plan C
  into_call (t ∷ c ∷ []) = reduce_rule (function (T.Builtin B.Conj) no_values) t c
  into_call _ = throw Arity
