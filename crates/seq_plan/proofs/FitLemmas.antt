-- When nodes are fit.
use Rattle.std.proofs.Common.{◌≡◌, ℕ, ◌+◌, ◌*◌, ◌/◌, ℤ, pos, negsuc, ◌+ℤ◌, ◌-ℤ◌, ◌*ℤ◌, int_lt, int_le, int_div, Bool, true, false, cond, ◌&&◌, refl, arith}
use Rattle.std.proofs.lemmas.Bool.Decides.{nat_tests}
use Rattle.std.proofs.lemmas.Int.{ints}
use Rattle.seq_values.specs.Model.{Value, vec_seq, Values, ◌&◌}
use Rattle.seq_plan.specs.Nodes.{range_stop}
use Rattle.seq_plan.specs.Sound.{is_fit}

-- what isn't asked needn't be shown
pub unasked : {a b : Bool} → a ≡ false → a ≡ true → b ≡ true
unasked h k = absurd cc

-- both tests of two
pub both : {a b : Bool} → a ≡ true → b ≡ true → a && b ≡ true
both {a = true} h k = k
both {a = false} h k = h

pub first_of_both : (a b : Bool) → a && b ≡ true → a ≡ true
first_of_both true b h = refl
first_of_both false b h = h

pub second_of_both : (a b : Bool) → a && b ≡ true → b ≡ true
second_of_both true b h = h
second_of_both false b h = absurd cc

-- a vector with an item begins at it
pub fit_at_start : {C : Type 0} (x : Value C) (xs : Values C) → is_fit (vec_seq (x & xs) 0) ≡ true
fit_at_start x xs = grind (arith, nat_tests)

-- ## Where a range stands

pub le_itself : (a : ℤ) → int_le a a ≡ true
le_itself a = grind (arith, ints)

pub le_next : (a b : ℤ) → int_le a b ≡ true → int_le a (b +ℤ pos 1) ≡ true
le_next a b h = grind (arith, ints)

le_less : (a b c : ℤ) → int_le a b ≡ true → int_lt b c ≡ true → int_le a c ≡ true
le_less a b c h k = grind (arith, ints)

-- a number and so many more
le_more : (a : ℤ) (n : ℕ) → int_le a (a +ℤ pos n) ≡ true
le_more a n = grind (arith, ints)

le_difference : (a b : ℤ) → int_le a b ≡ true → int_le (pos 0) (b -ℤ a) ≡ true
le_difference a b h = grind (arith, ints)

-- the next chunk begins above the number from which chunks are counted
le_next_chunk : (size : ℕ) (from d : ℤ) → int_le (pos 0) d ≡ true → int_le from (from +ℤ (pos size *ℤ (int_div d (pos size) +ℤ pos 1))) ≡ true
le_next_chunk size from (pos n) h = le_more from (size * (n / size + 1))
le_next_chunk size from (negsuc n) h = absurd cc

le_either : (b : Bool) (x y z : ℤ) → int_le x y ≡ true → int_le x z ≡ true → int_le x (cond b y z) ≡ true
le_either true x y z h k = h
le_either false x y z h k = k

pub le_stop : (size : ℕ) (from at end : ℤ) → int_le from at ≡ true → int_lt at end ≡ true → int_le from (range_stop size from at end) ≡ true
le_stop size from at end h k = le_either _ from _ _ (le_next_chunk size from (at -ℤ from) (le_difference from at h)) (le_less from at end h k)
