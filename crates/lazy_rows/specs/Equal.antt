-- `=` and `not=` of clojure.core. Which side is asked first, and that functions and reduced values aren't compared, is this language's own.
use Rattle.std.specs.Prelude.{Bool, true, false, not, ◌&&◌, ◌||◌, cond, List, [], ◌∷◌, bytes_eq}
use Rattle.std.specs.Ordering.{int_eq}
use Rattle.seq_base.specs.declared.thrown.Thrown.TheVariants.{Arity, BadType}
use Rattle.seq_values.specs.Model.{Value, nil, bool, int, keyword, text, vector, function, reduced, cell, empty, cons, chunk, range, vec_seq}
use Rattle.seq_plan.specs.Plan.{Plan, visit, seq, go, give, throw, then, equal_from, Round, ends_with, fails, visits}
use Rattle.seq_plan.specs.Nodes.{first_of, rest_of, is_truthy, is_nil, if_true}

abbrev pub same_truth : Bool → Bool → Bool
same_truth true b = b
same_truth false b = not b

module _ {C : Type 0} where
  -- a function, a transducer or reducer too, or a reduced value
  abbrev pub is_incomparable : Value C → Bool
  is_incomparable (function t xs) = true
  is_incomparable (reduced v) = true
  is_incomparable _ = false

  -- a vector, a node or a lazy cell
  abbrev pub holds_elements : Value C → Bool
  holds_elements (vector xs) = true
  holds_elements (cell c) = true
  holds_elements empty = true
  holds_elements (cons xs r) = true
  holds_elements (chunk xs r) = true
  holds_elements (range from at end) = true
  holds_elements (vec_seq xs at) = true
  holds_elements _ = false

  -- atoms of one kind are compared by value; all else is unequal
  abbrev pub same_atom : Value C → Value C → Bool
  same_atom nil nil = true
  same_atom (bool a) (bool b) = same_truth a b
  same_atom (int a) (int b) = int_eq a b
  same_atom (keyword a) (keyword b) = bytes_eq a b
  same_atom (text a) (text b) = bytes_eq a b
  same_atom _ _ = false

  -- What comparing a pair does after its own step. Of two collections the seq of the left is taken, then that of the right.
  abbrev pub pair_on : Value C → Value C → Plan C
  pair_on x y =
      cond (is_incomparable x || is_incomparable y)
      (throw BadType)
      (cond (holds_elements x && holds_elements y)
      (seq x (λ s. seq y (λ t. go equal_from (s ∷ t ∷ []) give)))
      (give (bool (same_atom x y))))

  -- The two seqs. The own step of a round is that of the pair of first elements. Both nil are equal, one nil is unequal.
  abbrev pub equal_on : Value C → Value C → Round C
  equal_on s t =
      cond (is_nil s || is_nil t)
      (ends_with (bool (is_nil s && is_nil t)))
      (visits (then (pair_on (first_of s) (first_of t)) (λ b. if_true b (seq (rest_of s) (λ u. seq (rest_of t) (λ v. go equal_from (u ∷ v ∷ []) give))) (give b))))

  -- the two seqs
  abbrev pub equal_round : List (Value C) → Round C
  equal_round (s ∷ t ∷ []) = equal_on s t
  equal_round _ = fails BadType

  -- pairs of neighbours from the left, up to the first unequal one
  abbrev pub equal_each : Value C → List (Value C) → (Value C → Plan C) → Plan C
  equal_each x [] k = k (bool true)
  equal_each x (y ∷ ys) k = visit (then (pair_on x y) (λ b. if_true b (equal_each y ys k) (k b)))

  -- `=`, where one argument alone is equal
  abbrev pub equal_call : List (Value C) → Plan C
  equal_call [] = throw Arity
  equal_call (x ∷ xs) = equal_each x xs give

  -- `not=`
  abbrev pub unequal_call : List (Value C) → Plan C
  unequal_call [] = throw Arity
  unequal_call (x ∷ xs) = equal_each x xs (λ b. give (bool (not (is_truthy b))))
