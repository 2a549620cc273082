-- Numbers that stay within 64 bits.
use Rattle.std.proofs.Common.{◌≡◌, ℤ, pos, negsuc, true, false, Option, Some, None, SomeIff, FitsSigned, w64, refl, ap, arith, rules}
use Rattle.core_rows.specs.Arithmetic.{fits}
use Rattle.core_fns.specs.Answering.{kept}

pub fits_is : (n : ℤ) → FitsSigned w64 n → fits n ≡ true
fits_is (pos n) f = search (rules, arith)
fits_is (negsuc n) f = search (rules, arith)

pub fits_not : (n : ℤ) → (FitsSigned w64 n → ⊥) → fits n ≡ false
fits_not (pos n) f = search (rules, arith)
fits_not (negsuc n) f = search (rules, arith)

pub kept_is : (r : Option ℤ) (n : ℤ) → SomeIff r (FitsSigned w64 n) n → r ≡ kept n
kept_is (Some m) n f = rw (fits_is n f.0) (ap Some f.1)
kept_is None n f = rw (fits_not n f) refl
