-- What is held is no deeper than what holds it.
use Rattle.std.proofs.Common.{◌≡◌, ℕ, suc, ◌≤◌, max, nat_le, true, arith}
use Rattle.std.proofs.lemmas.Bool.Decides.{nat_tests}
use Rattle.seq_values.specs.Model.{Value, Values, no_values, ◌&◌}
use Rattle.seq_plan.specs.Nodes.{depth, depths, all_but_last}

-- so many tests of depths at once
pub below : {n m : ℕ} (top : ℕ) → n ≤ m → nat_le m top ≡ true → nat_le n top ≡ true
below top h e = grind (arith, nat_tests)

pub one_less : (n top : ℕ) → nat_le (suc n) top ≡ true → nat_le n top ≡ true
one_less n top e = grind (arith, nat_tests)

pub left_of : (n m top : ℕ) → nat_le (max n m) top ≡ true → nat_le n top ≡ true
left_of n m top e = grind (arith, nat_tests)

pub right_of : (n m top : ℕ) → nat_le (max n m) top ≡ true → nat_le m top ≡ true
right_of n m top e = grind (arith, nat_tests)

pub max_grows : {a b : ℕ} (c : ℕ) → a ≤ b → suc (max a c) ≤ suc (max b c)
max_grows c h = omega (arith, h)

pub right_grows : {a b : ℕ} (c : ℕ) → a ≤ b → max c a ≤ max c b
right_grows c h = omega (arith, h)

pub le_right : (a b : ℕ) → b ≤ max a b
le_right a b = omega arith

module _ {C : Type 0} where
  -- the last one left out
  pub but_last : (x : Value C) (xs : Values C) → depths (all_but_last x xs) ≤ depths (x & xs)
  but_last x no_values = omega arith
  but_last x (y & ys) = right_grows (depth x) (but_last y ys)
