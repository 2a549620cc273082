-- Digits one by one.
use Rattle.std.proofs.Common.{◌≡◌, ℕ, zero, suc, ◌+◌, ◌*◌, ◌-◌, ◌≤◌, Bool, true, false, [], ◌∷◌, drop, length, Some, None, refl, ap, sym, ◌∙◌, arith, add-one}
use Rattle.std.specs.Prelude.{if◌then◌else◌, slice_get}
use Rattle.command_line.specs.Settings.{Text, is_digit, value_from}

drop_here : (xs : Text) (i x : ℕ) → slice_get xs i ≡ Some x → drop i xs ≡ x ∷ drop (suc i) xs
drop_here [] i x e = absurd cc
drop_here (y ∷ ys) zero x e = let p : y ≡ x = cc in ap (λ z. z ∷ ys) p
drop_here (y ∷ ys) (suc i) x e = drop_here ys i x e

drop_at : (xs : Text) (i x : ℕ) → slice_get xs i ≡ Some x → drop i xs ≡ x ∷ drop (i + 1) xs
drop_at xs i x e = rw add-one (drop_here xs i x e)

chosen : {X : Type 0} (b : Bool) (x y : X) → b ≡ true → (if b then x else y) ≡ x
chosen b x y e = ap (λ c. if c then x else y) e

pub left_out : {X : Type 0} (b : Bool) (x y : X) → b ≡ false → (if b then x else y) ≡ y
left_out b x y e = ap (λ c. if c then x else y) e

pub one_digit : (n d : ℕ) (ds : Text) → is_digit d ≡ true → value_from n (d ∷ ds) ≡ value_from (10 * n + (d - 48)) ds
one_digit n d ds e = chosen (is_digit d) (value_from (10 * n + (d - 48)) ds) None e

pub no_digit : (n d : ℕ) (ds : Text) → is_digit d ≡ false → value_from n (d ∷ ds) ≡ None
no_digit n d ds e = left_out (is_digit d) (value_from (10 * n + (d - 48)) ds) None e

-- the digits behind so many, with the value of those before
pub digit_more : (t : Text) (i d n : ℕ) → slice_get t i ≡ Some d → is_digit d ≡ true → value_from 0 t ≡ value_from n (drop i t) → value_from 0 t ≡ value_from (10 * n + (d - 48)) (drop (i + 1) t)
digit_more t i d n at e h = h ∙ (ap (value_from n) (drop_at t i d at) ∙ one_digit n d (drop (i + 1) t) e)

pub stops_at : (t : Text) (i d n : ℕ) → slice_get t i ≡ Some d → is_digit d ≡ false → value_from 0 t ≡ value_from n (drop i t) → value_from 0 t ≡ None
stops_at t i d n at e h = h ∙ (ap (value_from n) (drop_at t i d at) ∙ no_digit n d (drop (i + 1) t) e)

drop_all : (t : Text) (i : ℕ) → length t ≤ i → drop i t ≡ []
drop_all [] zero e = refl
drop_all [] (suc i) e = refl
drop_all (y ∷ ys) zero e = absurd (omega arith)
drop_all (y ∷ ys) (suc i) e = drop_all ys i (omega arith)

pub all_digits : (t : Text) (i n : ℕ) → length t ≤ i → value_from 0 t ≡ value_from n (drop i t) → Some n ≡ value_from 0 t
all_digits t i n over h = sym (h ∙ ap (value_from n) (drop_all t i over))
