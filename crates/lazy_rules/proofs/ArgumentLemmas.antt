-- What is known of arguments by their number, and by what number the first one is.
use Rattle.std.proofs.Common.{◌≡◌, ◌≢◌, ℕ, ◌<◌, ℤ, List, [], ◌∷◌, length, Some, None, refl, ap, sym, ◌∙◌, arith}
use Rattle.std.proofs.lemmas.List.{length-map}
use Rattle.seq_values.specs.Model as M
use Rattle.seq_values.specs.Plain.{plain, plains}
use Rattle.seq_values.specs.declared.value.Value.{Value}
use Rattle.lazy_rules.specs.Arguments.{counted, counted_with, first_number}
use Rattle.seq_turns.specs.Arguments.{integer_of}

-- ## Numbers

pub is_number : (x : M.Value ℕ) (n : ℤ) → integer_of x ≡ Some n → x ≡ M.int n
is_number (M.int m) n e = let p : m ≡ n = cc in ap M.int p
is_number M.nil n e = absurd cc
is_number (M.bool b) n e = absurd cc
is_number (M.keyword k) n e = absurd cc
is_number (M.text t) n e = absurd cc
is_number (M.vector ys) n e = absurd cc
is_number (M.function t ys) n e = absurd cc
is_number (M.reduced v) n e = absurd cc
is_number (M.cell m) n e = absurd cc
is_number M.empty n e = absurd cc
is_number (M.cons ys v) n e = absurd cc
is_number (M.chunk ys v) n e = absurd cc
is_number (M.range a b o) n e = absurd cc
is_number (M.vec_seq ys i) n e = absurd cc

-- ## A number and a second argument

not_two : (xs : List (M.Value ℕ)) → length xs ≢ 2 → counted xs ≡ None
not_two [] n = refl
not_two (x ∷ []) n = refl
not_two (x ∷ y ∷ []) n = absurd (n refl)
not_two (x ∷ y ∷ z ∷ zs) n = refl

pub not_counted : (xs : List Value) → length xs ≢ 2 → counted (plains xs) ≡ None
not_counted xs n = not_two (plains xs) (λ e. n (sym (length-map xs plain) ∙ e))

pub no_count : (xs : List Value) (x y : Value) → xs ≡ x ∷ y ∷ [] → integer_of (plain x) ≡ None → counted (plains xs) ≡ None
no_count xs x y e n = ap (λ l. counted (plains l)) e ∙ ap (counted_with (plain y)) n

pub counts : (xs : List Value) (x y z : Value) (n : ℤ) → xs ≡ x ∷ y ∷ [] → plain x ≡ M.int n → z ≡ y → plains xs ≡ M.int n ∷ plain z ∷ []
counts xs x y z n e q p = ap plains e ∙ (λ i. q i ∷ plain (sym p i) ∷ [])

-- ## The first argument

first_of_list : (xs : List (M.Value ℕ)) (n : ℤ) → first_number xs ≡ Some n → 0 < length xs
first_of_list [] n e = absurd cc
first_of_list (x ∷ xs) n e = omega arith

pub first_alone : (xs : List Value) (n : ℤ) → length xs ≡ 1 → first_number (plains xs) ≡ Some n → plains xs ≡ M.int n ∷ []
first_alone [] n l e = absurd cc
first_alone (x ∷ []) n l e = ap (λ y. y ∷ []) (is_number (plain x) n e)
first_alone (x ∷ y ∷ ys) n l e = absurd (omega (arith, l))
