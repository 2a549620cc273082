-- Lists of names without repeats, by a test.
use Rattle.std.proofs.Common.{◌≡◌, ℕ, zero, suc, Bool, true, false, cond, List, [], ◌∷◌, refl}
use Rattle.seq_meaning.specs.Names.{Name, form, part, retry}
use Rattle.seq_meaning.specs.Counts.{IsIn, here, there, Distinct, none_twice, once_more}

abbrev both : Bool → Bool → Bool
both true b = b
both false b = false

abbrev either : Bool → Bool → Bool
either true b = true
either false b = b

abbrev same_number : ℕ → ℕ → Bool
same_number zero zero = true
same_number (suc i) (suc j) = same_number i j
same_number _ _ = false

abbrev same_name : Name → Name → Bool
same_name (form i) (form j) = same_number i j
same_name (part e i) (part f j) = both (same_name e f) (same_number i j)
same_name (retry e) (retry f) = same_name e f
same_name _ _ = false

same_number_refl : (i : ℕ) → same_number i i ≡ true
same_number_refl zero = refl
same_number_refl (suc i) = same_number_refl i

same_refl : (e : Name) → same_name e e ≡ true
same_refl (form i) = same_number_refl i
same_refl (part e i) = rw (same_refl e) (same_number_refl i)
same_refl (retry e) = same_refl e

abbrev pub is_among : Name → List Name → Bool
is_among e [] = false
is_among e (f ∷ l) = either (same_name e f) (is_among e l)

either_true : (b : Bool) → either b true ≡ true
either_true true = refl
either_true false = refl

pub among_is : {e : Name} {l : List Name} → IsIn e l → is_among e l ≡ true
among_is {e = e} here = rw (same_refl e) refl
among_is (there i) = rw (among_is i) (either_true _)

abbrev pub no_repeats : List Name → Bool
no_repeats [] = true
no_repeats (e ∷ l) = cond (is_among e l) false (no_repeats l)

pub distinct : (l : List Name) → no_repeats l ≡ true → Distinct l
distinct [] p = none_twice
distinct (e ∷ l) p = go (is_among e l) refl p (distinct l)
  where
    go : (b : Bool) → is_among e l ≡ b → cond b false (no_repeats l) ≡ true → (no_repeats l ≡ true → Distinct l) → Distinct (e ∷ l)
    go true q r f = absurd cc
    go false q r f = once_more (λ i. let s = among_is i in absurd cc) (f r)
