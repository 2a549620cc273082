-- How many elements of a value are there already, and whether its end is. Nothing is asked: the walk goes on behind a cell only where it is realised.
use Rattle.std.specs.Prelude.{ℕ, ◌+◌, ◌-◌, ℤ, ◌-ℤ◌, unsigned_abs, Bool, true, false, List, length}
use Rattle.seq_values.specs.declared.words.Target.{Target}
use Rattle.seq_values.specs.Model.{Value, nil, bool, int, keyword, text, vector, function, reduced, cell, empty, cons, chunk, range, vec_seq, Values, list}

-- what holds no elements
pub data HoldsNone {C : Type 0} : Value C → Type 0 where
  no_bool : {b : Bool} → HoldsNone (bool b)
  no_int : {n : ℤ} → HoldsNone (int n)
  no_keyword : {name : List ℕ} → HoldsNone (keyword name)
  no_text : {bytes : List ℕ} → HoldsNone (text bytes)
  no_function : {t : Target} {xs : Values C} → HoldsNone (function t xs)
  no_reduced : {v : Value C} → HoldsNone (reduced v)

module _ {C : Type 0} (IsRealised : C → Type 0) (Shows : C → Value C → Type 0) where
  -- the number of elements, and whether the end is reached
  pub data Front : Value C → ℕ → Bool → Type 0 where
    front_nil : Front nil 0 true
    front_empty : Front empty 0 true
    front_vector : {xs : Values C} → Front (vector xs) (length (list xs)) true
    front_range : {from at end : ℤ} → Front (range from at end) (unsigned_abs (end -ℤ at)) true
    front_vec_seq : {xs : Values C} {at : ℕ} → Front (vec_seq xs at) (length (list xs) - at) true
    front_cons : {xs : Values C} {r : Value C} {n : ℕ} {ended : Bool} → Front r n ended → Front (cons xs r) (length (list xs) + n) ended
    front_chunk : {xs : Values C} {r : Value C} {n : ℕ} {ended : Bool} → Front r n ended → Front (chunk xs r) (length (list xs) + n) ended
    front_behind : {c : C} {v : Value C} {n : ℕ} {ended : Bool} → IsRealised c → Shows c v → Front v n ended → Front (cell c) n ended
    front_unrealised : {c : C} → ¬ (IsRealised c) → Front (cell c) 0 false
    front_no_list : {v : Value C} → HoldsNone v → Front v 0 false
