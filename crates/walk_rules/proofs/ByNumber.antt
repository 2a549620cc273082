-- Arguments by their number.
use Rattle.std.proofs.Common.{◌≡◌, ◌≢◌, ◌+◌, List, [], ◌∷◌, length, drop, Option, Some, None, ap, arith}
use Rattle.std.specs.Prelude.{MatchOption}
use Rattle.seq_values.specs.declared.value.Value.{Value}
use Rattle.seq_values.specs.Plain.{plain, plains}
use Rattle.seq_turns.specs.declared.proper.Proper.{Proper}

pub one_of : (xs : List Value) (v : Option Proper) → MatchOption v (length xs ≢ 1) (λ x. xs ≡ x.value ∷ []) → MatchOption v (length xs ≢ 1) (λ x. plains xs ≡ plain x.value ∷ [])
one_of xs None h = h
one_of xs (Some x) h = ap plains h

pub two_of : (xs : List Value) (v : Option (Proper × Proper)) → MatchOption v (length xs ≢ 2) (λ p. xs ≡ p.0.value ∷ p.1.value ∷ []) → MatchOption v (length xs ≢ 2) (λ p. plains xs ≡ plain p.0.value ∷ plain p.1.value ∷ [])
two_of xs None h = h
two_of xs (Some p) h = ap plains h

pub three_of : (xs : List Value) (x y z : Value) → length xs ≡ 3 → drop 0 xs ≡ x ∷ drop (0 + 1) xs → drop 1 xs ≡ y ∷ drop (1 + 1) xs → drop 2 xs ≡ z ∷ drop (2 + 1) xs → plains xs ≡ plain x ∷ plain y ∷ plain z ∷ []
three_of [] x y z e f g h = absurd cc
three_of (a ∷ []) x y z e f g h = absurd cc
three_of (a ∷ b ∷ []) x y z e f g h = absurd cc
three_of (a ∷ b ∷ c ∷ []) x y z e f g h =
    let p : a ≡ x = cc in
    let q : b ≡ y = cc in
    let r : c ≡ z = cc in
    λ i. plain (p i) ∷ plain (q i) ∷ plain (r i) ∷ []
three_of (a ∷ b ∷ c ∷ d ∷ ds) x y z e f g h = absurd (omega (arith, e))
