-- Well-formed values and terms of the meaning, by the tests of the values of the code. A value is well formed where each function in it binds what it has to, each node has an element and ends as it should, and nothing is too deep.
use Rattle.std.specs.Prelude.{◌≡◌, ℕ, nat_le, ℤ, Bool, true, List, [], ◌∷◌, length}
use Rattle.seq_values.specs.Sight.{Sight, a_nil, a_bool, an_int, a_vector, a_cell, an_empty, a_cons, a_chunked, a_function, another, kept_by_function}
use Rattle.seq_values.specs.WellFormed.{binds}
use Rattle.seq_values.specs.WellFormedTerms.{takes}
use Rattle.seq_values.specs.declared.words.Op.{Op}
use Rattle.seq_values.specs.declared.words.Target.{Target}
use Rattle.seq_values.specs.Model.{Value, nil, bool, int, keyword, text, vector, function, reduced, cell, empty, cons, chunk, range, vec_seq, Values, no_values, ◌&◌, list, values, Term}
use Rattle.seq_plan.specs.Nodes.{deepest, depth}
use Rattle.seq_plan.specs.Sound.{is_fit}

module _ {C : Type 0} where
  -- what the rules look at when they ask of which kind a value is
  abbrev mutual
    pub sight : Value C → Sight
    sight nil = a_nil
    sight (bool b) = a_bool
    sight (int n) = an_int n
    sight (keyword name) = another
    sight (text bytes) = another
    sight (vector xs) = a_vector (length (list xs))
    sight (function t xs) = a_function t (kept_by_function t (sights xs))
    sight (reduced v) = another
    sight (cell c) = a_cell
    sight empty = an_empty
    sight (cons xs r) = a_cons
    sight (chunk xs r) = a_chunked
    sight (range from at end) = a_chunked
    sight (vec_seq xs at) = a_chunked

    pub sights : Values C → List Sight
    sights no_values = []
    sights (x & xs) = sight x ∷ sights xs

  -- no deeper than a value may be
  abbrev pub Shallow : Value C → Type 0
  Shallow v = nat_le (depth v) deepest ≡ true

mutual
  pub data Well {C : Type 0} : Value C → Type 0 where
    well_nil : Well nil
    well_bool : {b : Bool} → Well (bool b)
    well_int : {n : ℤ} → Well (int n)
    well_keyword : {name : List ℕ} → Well (keyword name)
    well_text : {bytes : List ℕ} → Well (text bytes)
    well_cell : {c : C} → Well (cell c)
    well_empty : Well empty
    well_vector : {xs : Values C} → Shallow (vector xs) → WellAll xs → Well (vector xs)
    well_function : {t : Target} {xs : Values C} → binds t (sights xs) ≡ true → Shallow (function t xs) → WellAll xs → Well (function t xs)
    well_reduced : {v : Value C} → Shallow (reduced v) → Well v → Well (reduced v)
    well_cons : {xs : Values C} {r : Value C} → is_fit (cons xs r) ≡ true → Shallow (cons xs r) → WellAll xs → Well r → Well (cons xs r)
    well_chunk : {xs : Values C} {r : Value C} → is_fit (chunk xs r) ≡ true → Shallow (chunk xs r) → WellAll xs → Well r → Well (chunk xs r)
    well_range : {from at end : ℤ} → is_fit {C = C} (range from at end) ≡ true → Well (range from at end)
    well_vec_seq : {xs : Values C} {at : ℕ} → is_fit (vec_seq xs at) ≡ true → Shallow (vec_seq xs at) → WellAll xs → Well (vec_seq xs at)

  pub data WellAll {C : Type 0} : Values C → Type 0 where
    well_none : WellAll no_values
    well_more : {x : Value C} {xs : Values C} → Well x → WellAll xs → WellAll (x & xs)

pub data WellList {C : Type 0} : List (Value C) → Type 0 where
  well_end : WellList []
  well_item : {x : Value C} {xs : List (Value C)} → Well x → WellList xs → WellList (x ∷ xs)

-- well-formed arguments, of the number and the kinds that the operation takes
pub data WellTerm {C : Type 0} : Term C → Type 0 where
  well_term : {op : Op} {xs : List (Value C)} → WellList xs → takes op (sights (values xs)) ≡ true → WellTerm (record { op = op; args = xs })
