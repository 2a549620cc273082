-- What is left of a list from a place on.
use Rattle.std.proofs.Common.{◌≡◌, ℕ, zero, suc, ◌≤◌, List, [], ◌∷◌, length, drop, slice_get, Some, ap, arith}
use Rattle.seq_values.specs.Plain.{plain, plains}
use Rattle.lazy_rules.specs.Arguments.{first_number}
use Rattle.seq_turns.specs.Arguments.{integer_of}
use Rattle.seq_values.specs.declared.value.Value.{Value}

-- the first of some values
pub got_first : (xs : List Value) (v : Value) → slice_get xs 0 ≡ Some v → integer_of (plain v) ≡ first_number (plains xs)
got_first [] v e = absurd cc
got_first (x ∷ xs) v e = let p : v ≡ x = cc in ap (λ y. integer_of (plain y)) p

pub at_end : (xs : List Value) (k : ℕ) → drop k xs ≡ [] → length xs ≤ k
at_end [] k e = omega arith
at_end (x ∷ xs) zero e = absurd cc
at_end (x ∷ xs) (suc k) e =
    let p : length xs ≤ k = at_end xs k e in
    omega (arith, p)
