-- The words that force nothing, and the functions that they make: what a call does after its own step.
-- Of a word the number of arguments is looked at first, then their types, then the rest; of a value that is made, its length before its depth.
use Rattle.std.specs.Prelude.{pos, ◌+ℤ◌, ◌-ℤ◌, ◌*ℤ◌, int_lt, int_le, Bool, true, false, not, List, [], ◌∷◌, ◌++◌}
use Rattle.std.specs.Int.{int_min, int_max}
use Rattle.std.specs.Ordering.{int_eq}
use Rattle.seq_base.specs.declared.thrown.Thrown.TheVariants.{Arity, BadType}
use Rattle.seq_values.specs.declared.words.Builtin.{Builtin}
use Rattle.seq_values.specs.declared.words.Builtin.TheVariants as B
use Rattle.seq_values.specs.declared.words.Target.{Target}
use Rattle.seq_values.specs.declared.words.Target.TheVariants as T
use Rattle.seq_values.specs.Model.{Value, bool, int, keyword, text, vector, function, reduced, values}
use Rattle.seq_plan.specs.Plan.{Plan, call, give, throw}
use Rattle.seq_plan.specs.Nodes.{is_truthy, is_nil, give_value, with_members}
use Rattle.seq_plan.specs.Stages.{has_stages}
use Rattle.seq_plan.specs.Lists.{give_list}
use Rattle.seq_plan.specs.Arguments.{of_value}
use Rattle.core_rows.specs.Arithmetic.{left_of, each_pair, is_even, of_any, of_some, of_one, of_two, give_bool, give_int, from_left, minus, quotient, remainder, modulus}

module _ {C : Type 0} where
  -- ## Values by kind

  abbrev pub is_true : Value C → Bool
  is_true (bool b) = b
  is_true _ = false

  abbrev pub is_false : Value C → Bool
  is_false (bool b) = not b
  is_false _ = false

  abbrev pub is_number : Value C → Bool
  is_number (int n) = true
  is_number _ = false

  abbrev pub is_keyword : Value C → Bool
  is_keyword (keyword name) = true
  is_keyword _ = false

  abbrev pub is_text : Value C → Bool
  is_text (text bytes) = true
  is_text _ = false

  abbrev pub is_vector : Value C → Bool
  is_vector (vector xs) = true
  is_vector _ = false

  -- transducers and reducers too
  abbrev pub is_function : Value C → Bool
  is_function (function t xs) = true
  is_function _ = false

  abbrev pub is_reduced : Value C → Bool
  is_reduced (reduced v) = true
  is_reduced _ = false

  -- what a reduced value holds; another value is itself
  abbrev pub unreduced : Value C → Value C
  unreduced (reduced v) = v
  unreduced v = v

  -- ## Rows

  -- `nil?`, `number?` and the like: whether it is so
  abbrev pub tells : (Value C → Bool) → List (Value C) → Plan C
  tells test xs = of_value (λ x. give_bool (test x)) xs

  -- a function with what is bound to it
  abbrev pub give_function : Target → List (Value C) → Plan C
  give_function t xs = with_members xs (λ ys. give_value (function t (values ys)))

  -- `vector`
  abbrev pub give_vector : List (Value C) → Plan C
  give_vector xs = with_members xs (λ ys. give_value (vector (values ys)))

  -- `constantly` and `complement` bind one value.
  abbrev pub binds_one : Target → List (Value C) → Plan C
  binds_one t (x ∷ []) = give_function t (x ∷ [])
  binds_one t _ = throw Arity

  -- `partial` binds a function and any number of first arguments.
  abbrev pub partial : List (Value C) → Plan C
  partial [] = throw Arity
  partial (f ∷ xs) = give_function T.Partial (f ∷ xs)

  -- `comp` of nothing is `identity`.
  abbrev pub comp : List (Value C) → Plan C
  comp [] = give_function (T.Builtin B.Identity) []
  comp (f ∷ fs) = give_function T.Comp (f ∷ fs)

  -- `completing` binds f, or f and g.
  abbrev pub completing : List (Value C) → Plan C
  completing (f ∷ []) = give_function T.Completing (f ∷ [])
  completing (f ∷ g ∷ []) = give_function T.Completing (f ∷ g ∷ [])
  completing _ = throw Arity

  -- `r/monoid` binds op and ctor (clojure.core.reducers).
  abbrev pub monoid : List (Value C) → Plan C
  monoid (op ∷ ctor ∷ []) = give_function T.Monoid (op ∷ ctor ∷ [])
  monoid _ = throw Arity

  -- What a call of a word does. Where nothing else is said, a word is the function of its name in clojure.core.
  abbrev pub core_call : Builtin → List (Value C) → Plan C
  core_call B.Plus xs = of_any (from_left ◌+ℤ◌ (pos 0)) xs
  core_call B.Times xs = of_any (from_left ◌*ℤ◌ (pos 1)) xs
  core_call B.Minus xs = of_some minus xs
  core_call B.Inc xs = of_one (λ n. give_int (n +ℤ pos 1)) xs
  core_call B.Dec xs = of_one (λ n. give_int (n -ℤ pos 1)) xs
  core_call B.Quot xs = of_two quotient xs
  core_call B.Rem xs = of_two remainder xs
  core_call B.Mod xs = of_two modulus xs
  core_call B.Min xs = of_some (λ n ns. give (int (left_of int_min n ns))) xs
  core_call B.Max xs = of_some (λ n ns. give (int (left_of int_max n ns))) xs
  core_call B.Less xs = of_some (λ n ns. give_bool (each_pair int_lt n ns)) xs
  core_call B.LessOrEqual xs = of_some (λ n ns. give_bool (each_pair int_le n ns)) xs
  core_call B.Greater xs = of_some (λ n ns. give_bool (each_pair (λ a b. int_lt b a) n ns)) xs
  core_call B.GreaterOrEqual xs = of_some (λ n ns. give_bool (each_pair (λ a b. int_le b a) n ns)) xs
  core_call B.IsZero xs = of_one (λ n. give_bool (int_eq n (pos 0))) xs
  core_call B.IsPositive xs = of_one (λ n. give_bool (int_lt (pos 0) n)) xs
  core_call B.IsNegative xs = of_one (λ n. give_bool (int_lt n (pos 0))) xs
  core_call B.IsEven xs = of_one (λ n. give_bool (is_even n)) xs
  core_call B.IsOdd xs = of_one (λ n. give_bool (not (is_even n))) xs
  core_call B.IsNil xs = tells is_nil xs
  core_call B.IsSome xs = tells (λ x. not (is_nil x)) xs
  core_call B.IsTrue xs = tells is_true xs
  core_call B.IsFalse xs = tells is_false xs
  core_call B.Not xs = tells (λ x. not (is_truthy x)) xs
  core_call B.IsNumber xs = tells is_number xs
  core_call B.IsKeyword xs = tells is_keyword xs
  core_call B.IsString xs = tells is_text xs
  core_call B.IsVector xs = tells is_vector xs
  core_call B.IsFunction xs = tells is_function xs
  core_call B.Identity xs = of_value give xs
  core_call B.Constantly xs = binds_one T.Constantly xs
  core_call B.Complement xs = binds_one T.Complement xs
  core_call B.Partial xs = partial xs
  core_call B.Comp xs = comp xs
  core_call B.Completing xs = completing xs
  core_call B.Monoid xs = monoid xs
  core_call B.Vector xs = give_vector xs
  core_call B.List xs = give_list xs
  core_call B.Reduced xs = of_value (λ x. give_value (reduced x)) xs
  core_call B.IsReduced xs = tells is_reduced xs
  core_call B.Unreduced xs = of_value (λ x. give (unreduced x)) xs
  core_call _ xs = throw Arity

  -- ## Calls of the functions that the words make

  -- The last is called with the arguments, and each earlier one with the answer.
  abbrev pub composed : List (Value C) → List (Value C) → (Value C → Plan C) → Plan C
  composed [] xs k = throw BadType
  composed (f ∷ []) xs k = call f xs k
  composed (f ∷ g ∷ fs) xs k = composed (g ∷ fs) xs (λ y. call f (y ∷ []) k)

  -- a composition that is a transducer with a stage is no function for a call
  abbrev pub comp_call : Bool → List (Value C) → List (Value C) → Plan C
  comp_call true fs xs = throw BadType
  comp_call false fs xs = composed fs xs give

  -- without arguments and with two f is called; with one g, or the argument is the answer where there is no g
  abbrev pub completing_call : List (Value C) → List (Value C) → Plan C
  completing_call (f ∷ gs) [] = call f [] give
  completing_call (f ∷ []) (x ∷ []) = give x
  completing_call (f ∷ g ∷ []) (x ∷ []) = call g (x ∷ []) give
  completing_call (f ∷ gs) (x ∷ y ∷ []) = call f (x ∷ y ∷ []) give
  completing_call _ _ = throw Arity

  -- without arguments ctor is called, with two op
  abbrev pub monoid_call : List (Value C) → List (Value C) → Plan C
  monoid_call (op ∷ ctor ∷ []) [] = call ctor [] give
  monoid_call (op ∷ ctor ∷ []) (x ∷ y ∷ []) = call op (x ∷ y ∷ []) give
  monoid_call _ _ = throw Arity

  -- What a call of a function does, by what is bound to it and the arguments. Transducers with a stage and reducers aren't called.
  abbrev pub core_function : Target → List (Value C) → List (Value C) → Plan C
  core_function T.Partial (f ∷ bs) xs = with_members (bs ++ xs) (λ ys. call f ys give)
  core_function T.Comp fs xs = comp_call (has_stages (function T.Comp (values fs))) fs xs
  core_function T.Complement (f ∷ []) xs = call f xs (λ y. give_bool (not (is_truthy y)))
  core_function T.Constantly (x ∷ []) xs = give x
  core_function T.Completing bs xs = completing_call bs xs
  core_function T.Monoid bs xs = monoid_call bs xs
  core_function _ bs xs = throw BadType
