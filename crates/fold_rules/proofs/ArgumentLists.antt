-- Lists of three values and of four.
use Rattle.std.proofs.Common.{◌≡◌, ◌≢◌, ℕ, ◌+◌, List, [], ◌∷◌, length, drop, refl, ap, sym, ◌∙◌, arith}
use Rattle.seq_values.specs.declared.value.Value.{Value}

pub three_values : (xs : List Value) (x y z : Value) → length xs ≡ 3 → drop 0 xs ≡ x ∷ drop (0 + 1) xs → drop 1 xs ≡ y ∷ drop (1 + 1) xs → drop 2 xs ≡ z ∷ drop (2 + 1) xs → xs ≡ x ∷ y ∷ z ∷ []
three_values [] x y z l e q p = absurd cc
three_values (a ∷ []) x y z l e q p = absurd (omega (arith, l))
three_values (a ∷ b ∷ []) x y z l e q p = absurd (omega (arith, l))
three_values (a ∷ b ∷ c ∷ []) x y z l e q p = e ∙ ap (λ ys. x ∷ ys) (q ∙ ap (λ ys. y ∷ ys) p)
three_values (a ∷ b ∷ c ∷ d ∷ ys) x y z l e q p = absurd (omega (arith, l))

pub four_values : (xs : List Value) (x y z w : Value) → length xs ≡ 4 → drop 0 xs ≡ x ∷ drop (0 + 1) xs → drop 1 xs ≡ y ∷ drop (1 + 1) xs → drop 2 xs ≡ z ∷ drop (2 + 1) xs → drop 3 xs ≡ w ∷ drop (3 + 1) xs → xs ≡ x ∷ y ∷ z ∷ w ∷ []
four_values [] x y z w l e q p o = absurd cc
four_values (a ∷ []) x y z w l e q p o = absurd (omega (arith, l))
four_values (a ∷ b ∷ []) x y z w l e q p o = absurd (omega (arith, l))
four_values (a ∷ b ∷ c ∷ []) x y z w l e q p o = absurd (omega (arith, l))
four_values (a ∷ b ∷ c ∷ d ∷ []) x y z w l e q p o = e ∙ ap (λ ys. x ∷ ys) (q ∙ ap (λ ys. y ∷ ys) (p ∙ ap (λ ys. z ∷ ys) o))
four_values (a ∷ b ∷ c ∷ d ∷ f ∷ ys) x y z w l e q p o = absurd (omega (arith, l))
