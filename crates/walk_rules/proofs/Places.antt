-- Turns of `nth`.
use Rattle.std.proofs.Common.{◌≡◌, ◌≢◌, ℕ, zero, suc, ◌+◌, ◌<◌, ◌≤◌, ℤ, pos, negsuc, ◌-ℤ◌, true, false, int_le, int_lt, List, [], ◌∷◌, length, drop, Option, Some, None, refl, ap, sym, ◌∙◌, arith}
use Rattle.std.specs.Prelude.{unsigned_abs}
use Rattle.std.proofs.lemmas.List.{length-map}
use Rattle.std.proofs.lemmas.Int.{ints}
use Rattle.seq_base.specs.declared.thrown.Thrown.TheVariants.{Arity, BadType}
use Rattle.seq_values.specs.Model as M
use Rattle.seq_values.specs.Plain.{plain, plains}
use Rattle.seq_values.specs.declared.value.Value.{Value}
use Rattle.seq_plan.specs.Plan.{visit, seq, give, throw, plan_of, nth_from}
use Rattle.seq_plan.specs.Nodes.{first_of, rest_of, value_at}
use Rattle.seq_plan.specs.Cursors.{stands}
use Rattle.seq_plan.specs.declared.cursor.Cursor.{Cursor}
use Rattle.seq_plan.proofs.CursorLemmas.{list_values}
use Rattle.lazy_rows.specs.Walks.{nth_call, nth_rule, nth_of_nil, nth_of_vector, failing}
use Rattle.seq_turns.specs.declared.next.Next.{Next}
use Rattle.seq_turns.specs.declared.proper.Proper.{Proper}
use Rattle.seq_turns.specs.declared.places.Rest.{Rest}
use Rattle.seq_turns.specs.Seen.{rested}
use Rattle.seq_turns.proofs.Taking.{some_cursor}
use Rattle.walk_rules.specs.Left.{default_of, left_seq, left_step, Takes}
use Rattle.seq_turns.specs.Arguments.{integer_of}
use Rattle.walk_rules.specs.Words.{is_another}
use Rattle.walk_rules.specs.declared.state.AtSeq.TheVariants as Q
use Rattle.walk_rules.specs.declared.state.AtStep.TheVariants as T
use Rattle.walk_rules.specs.declared.state.State.{State}
use Rattle.walk_rules.proofs.Taking.{same, round}

-- ## Arguments

pub two_given : (args : List Value) (x y : Proper) (r : Next State) → plains args ≡ plain x.value ∷ plain y.value ∷ [] → Takes (nth_call (plain x.value ∷ plain y.value ∷ [])) r → Takes (nth_call (plains args)) r
two_given args x y r e h = same (ap nth_call (sym e)) h

pub three_given : (args : List Value) (x y d : Proper) (r : Next State) → plains args ≡ plain x.value ∷ plain y.value ∷ plain d.value ∷ [] → Takes (nth_call (plain x.value ∷ plain y.value ∷ plain d.value ∷ [])) r → Takes (nth_call (plains args)) r
three_given args x y d r e h = same (ap nth_call (sym e)) h

many : (a b c d : M.Value ℕ) (ds : List (M.Value ℕ)) → throw Arity ≡ nth_call (a ∷ b ∷ c ∷ d ∷ ds)
many a M.nil c d ds = refl
many a (M.bool b) c d ds = refl
many a (M.int n) c d ds = refl
many a (M.keyword k) c d ds = refl
many a (M.text t) c d ds = refl
many a (M.vector xs) c d ds = refl
many a (M.function t xs) c d ds = refl
many a (M.reduced v) c d ds = refl
many a (M.cell n) c d ds = refl
many a M.empty c d ds = refl
many a (M.cons xs r) c d ds = refl
many a (M.chunk xs r) c d ds = refl
many a (M.range from at end) c d ds = refl
many a (M.vec_seq xs at) c d ds = refl

pub others_given : (args : List Value) (r : Next State) → length args ≢ 2 → length args ≢ 3 → Takes (throw Arity) r → Takes (nth_call (plains args)) r
others_given [] r n m h = h
others_given (x ∷ []) r n m h = h
others_given (x ∷ y ∷ []) r n m h = absurd (n refl)
others_given (x ∷ y ∷ z ∷ []) r n m h = absurd (m refl)
others_given (x ∷ y ∷ z ∷ w ∷ ws) r n m h = same (many (plain x) (plain y) (plain z) (plain w) (plains ws)) h

is_number : (v : M.Value ℕ) (n : ℤ) → integer_of v ≡ Some n → v ≡ M.int n
is_number M.nil n e = absurd cc
is_number (M.bool b) n e = absurd cc
is_number (M.int m) n e = let p : m ≡ n = cc in ap M.int p
is_number (M.keyword k) n e = absurd cc
is_number (M.text t) n e = absurd cc
is_number (M.vector xs) n e = absurd cc
is_number (M.function t xs) n e = absurd cc
is_number (M.reduced v) n e = absurd cc
is_number (M.cell c) n e = absurd cc
is_number M.empty n e = absurd cc
is_number (M.cons xs r) n e = absurd cc
is_number (M.chunk xs r) n e = absurd cc
is_number (M.range from at end) n e = absurd cc
is_number (M.vec_seq xs at) n e = absurd cc

by_default : (x : M.Value ℕ) (n : ℤ) (d : Option Proper) → nth_rule n (default_of d) x ≡ nth_call (x ∷ M.int n ∷ default_of d)
by_default x n None = refl
by_default x n (Some d) = refl

pub typed : (x y : M.Value ℕ) (n : ℤ) (d : Option Proper) (r : Next State) → Some n ≡ integer_of y → Takes (nth_rule n (default_of d) x) r → Takes (nth_call (x ∷ y ∷ default_of d)) r
typed x y n d r e h = same (by_default x n d ∙ ap (λ v. nth_call (x ∷ v ∷ default_of d)) (sym (is_number y n (sym e)))) h

no_number : (x y : M.Value ℕ) → integer_of y ≡ None → throw BadType ≡ nth_call (x ∷ y ∷ [])
no_number x M.nil e = refl
no_number x (M.bool b) e = refl
no_number x (M.int m) e = absurd cc
no_number x (M.keyword k) e = refl
no_number x (M.text t) e = refl
no_number x (M.vector xs) e = refl
no_number x (M.function t xs) e = refl
no_number x (M.reduced v) e = refl
no_number x (M.cell c) e = refl
no_number x M.empty e = refl
no_number x (M.cons xs r) e = refl
no_number x (M.chunk xs r) e = refl
no_number x (M.range from at end) e = refl
no_number x (M.vec_seq xs at) e = refl

no_number_or : (x y d : M.Value ℕ) → integer_of y ≡ None → throw BadType ≡ nth_call (x ∷ y ∷ d ∷ [])
no_number_or x M.nil d e = refl
no_number_or x (M.bool b) d e = refl
no_number_or x (M.int m) d e = absurd cc
no_number_or x (M.keyword k) d e = refl
no_number_or x (M.text t) d e = refl
no_number_or x (M.vector xs) d e = refl
no_number_or x (M.function t xs) d e = refl
no_number_or x (M.reduced v) d e = refl
no_number_or x (M.cell c) d e = refl
no_number_or x M.empty d e = refl
no_number_or x (M.cons xs r) d e = refl
no_number_or x (M.chunk xs r) d e = refl
no_number_or x (M.range from at end) d e = refl
no_number_or x (M.vec_seq xs at) d e = refl

pub mistyped : (x y : M.Value ℕ) (d : Option Proper) (r : Next State) → None ≡ integer_of y → Takes (throw BadType) r → Takes (nth_call (x ∷ y ∷ default_of d)) r
mistyped x y None r e h = same (no_number x y (sym e)) h
mistyped x y (Some d) r e h = same (no_number_or x y (plain d.value) (sym e)) h

-- ## The kind of the collection

pub in_nil : (i : ℤ) (d : Option Proper) (v : M.Value ℕ) (r : Next State) → v ≡ M.nil → Takes (nth_of_nil (default_of d)) r → Takes (nth_rule i (default_of d) v) r
in_nil i d v r e h = same (ap (nth_rule i (default_of d)) (sym e)) h

pub in_vector : (i : ℤ) (d : Option Proper) (v : M.Value ℕ) (xs : List Value) (r : Next State) → v ≡ M.vector (M.values (plains xs)) → Takes (nth_of_vector i (default_of d) (plains xs)) r → Takes (nth_rule i (default_of d) v) r
in_vector i d v xs r e h = same (ap (nth_of_vector i (default_of d)) (sym (list_values (plains xs))) ∙ ap (nth_rule i (default_of d)) (sym e)) h

by_seq : (i : ℤ) (d : Option Proper) (v : M.Value ℕ) → is_another v ≡ true → seq v (λ s. left_seq (Q.Place i d) s) ≡ nth_rule i (default_of d) v
by_seq i d M.nil e = absurd cc
by_seq i d (M.bool b) e = refl
by_seq i d (M.int m) e = refl
by_seq i d (M.keyword k) e = refl
by_seq i d (M.text t) e = refl
by_seq i d (M.vector xs) e = absurd cc
by_seq i d (M.function t xs) e = refl
by_seq i d (M.reduced v) e = refl
by_seq i d (M.cell c) e = refl
by_seq i d M.empty e = refl
by_seq i d (M.cons xs r) e = refl
by_seq i d (M.chunk xs r) e = refl
by_seq i d (M.range from at end) e = refl
by_seq i d (M.vec_seq xs at) e = refl

pub in_another : (i : ℤ) (d : Option Proper) (v : M.Value ℕ) (p : Proper) (r : Next State) → plain p.value ≡ v → is_another v ≡ true → Takes (seq (plain p.value) (λ s. left_seq (Q.Place i d) s)) r → Takes (nth_rule i (default_of d) v) r
in_another i d v p r e a h = same (ap (λ x. seq x (λ s. left_seq (Q.Place i d) s)) e ∙ by_seq i d v a) h

-- ## A vector's place

at_place : (xs : List Value) (n : ℕ) (v : Value) (rest : List Value) → drop n xs ≡ v ∷ rest → plain v ≡ value_at (plains xs) n
at_place [] zero v rest e = absurd cc
at_place [] (suc n) v rest e = absurd cc
at_place (x ∷ xs) zero v rest e = let p : v ≡ x = cc in ap plain p
at_place (x ∷ xs) (suc n) v rest e = at_place xs n v rest e

within : (xs : List Value) (n : ℕ) (v : Value) (rest : List Value) → drop n xs ≡ v ∷ rest → n < length xs
within [] zero v rest e = absurd cc
within [] (suc n) v rest e = absurd cc
within (x ∷ xs) zero v rest e = omega arith
within (x ∷ xs) (suc n) v rest e = let h = within xs n v rest e in omega arith

beyond : (xs : List Value) (n : ℕ) → drop n xs ≡ [] → length xs ≤ n
beyond [] n e = omega arith
beyond (x ∷ xs) zero e = absurd cc
beyond (x ∷ xs) (suc n) e = let h = beyond xs n e in omega arith

is_less : (n m : ℕ) → n < m → int_lt (pos n) (pos m) ≡ true
is_less n m h = grind (arith, ints)

not_less : (n m : ℕ) → m ≤ n → int_lt (pos n) (pos m) ≡ false
not_less n m h = grind (arith, ints)

from_zero : (n : ℕ) → int_le (pos 0) (pos n) ≡ true
from_zero n = grind (arith, ints)

not_below : (n : ℕ) → int_lt (pos n) (pos 0) ≡ true → ⊥
not_below n b = let e : int_lt (pos n) (pos 0) ≡ false = not_less n 0 (omega arith) in absurd cc

pub there : (d : Option Proper) (xs : List Value) (n : ℕ) (v : Proper) (r : Next State) → drop n xs ≡ v.value ∷ drop (n + 1) xs → Takes (give (plain v.value)) r → Takes (nth_of_vector (pos n) (default_of d) (plains xs)) r
there d xs n v r e h = simp (length-map xs plain, from_zero n, is_less n (length xs) (within xs n v.value (drop (n + 1) xs) e)) (same (ap give (at_place xs n v.value (drop (n + 1) xs) e)) h)

pub past : (d : Option Proper) (xs : List Value) (n : ℕ) (r : Next State) → drop n xs ≡ [] → Takes (plan_of (failing (default_of d))) r → Takes (nth_of_vector (pos n) (default_of d) (plains xs)) r
past d xs n r e h = simp (length-map xs plain, from_zero n, not_less n (length xs) (beyond xs n e)) h

pub is_at : (i : ℤ) (n : ℕ) (d : Option Proper) (xs ys : List Value) (r : Next State) → int_lt i (pos 0) ≡ false → n ≡ unsigned_abs i → ys ≡ xs → Takes (nth_of_vector (pos n) (default_of d) (plains ys)) r → Takes (nth_of_vector i (default_of d) (plains xs)) r
is_at (pos m) n d xs ys r b e f h = same (λ k. nth_of_vector (pos (e k)) (default_of d) (plains (f k))) h
is_at (negsuc m) n d xs ys r b e f h = absurd cc

pub is_below : (i : ℤ) (d : Option Proper) (xs : List Value) (r : Next State) → int_lt i (pos 0) ≡ true → Takes (plan_of (failing (default_of d))) r → Takes (nth_of_vector i (default_of d) (plains xs)) r
is_below (pos n) d xs r b h = absurd (not_below n b)
is_below (negsuc n) d xs r b h = h

-- ## Rounds

pub place_below : (i : ℤ) (d : Option Proper) (s : M.Value ℕ) (r : Next State) → int_lt i (pos 0) ≡ true → Takes (plan_of (failing (default_of d))) r → Takes (left_seq (Q.Place i d) s) r
place_below i d s r e h = rw e h

pub place_on : (i : ℤ) (d : Option Proper) (s : M.Value ℕ) (r : Next State) → int_lt i (pos 0) ≡ false → Takes (left_seq (Q.Nth i d) s) r → Takes (left_seq (Q.Place i d) s) r
place_on i d s r e h = rw e h

pub nth_ends : (n : ℤ) (d : Option Proper) (r : Next State) → Takes (plan_of (failing (default_of d))) r → Takes (left_seq (Q.Nth n d) M.nil) r
nth_ends n d r h = round nth_from (M.int n ∷ M.nil ∷ default_of d) refl h

pub nth_here : (n : ℤ) (d : Option Proper) (c : Cursor) (r : Next State) → int_le n (pos 0) ≡ true → Takes (give (first_of (stands c))) r → Takes (left_seq (Q.Nth n d) (stands c)) r
nth_here n d c r b h = round nth_from (M.int n ∷ stands c ∷ default_of d) refl (rw (some_cursor c, b) h)

pub nth_goes : (n m : ℤ) (d : Option Proper) (c : Cursor) (r : Next State) → int_le n (pos 0) ≡ false → m ≡ n -ℤ pos 1 → Takes (visit (left_step (T.Nth m d c))) r → Takes (left_seq (Q.Nth n d) (stands c)) r
nth_goes n m d c r b e h = round nth_from (M.int n ∷ stands c ∷ default_of d) refl (rw (some_cursor c, b) (same (ap (λ k. visit (left_step (T.Nth k d c))) e) h))

pub nth_passes : (n m : ℤ) (d : Option Proper) (c : Cursor) (rest : Rest) (r : Next State) → rested rest ≡ rest_of (stands c) → Takes (seq (rested rest) (λ s. left_seq (Q.Nth m d) s)) r → m ≡ n → Takes (left_step (T.Nth n d c)) r
nth_passes n m d c rest r e h f = same (λ i. seq (e i) (λ s. left_seq (Q.Nth (f i) d) s)) h

pub nth_steps : (n : ℤ) (d : Option Proper) (c : Cursor) (rest : Rest) (r : Next State) → rested rest ≡ rest_of (stands c) → Takes (seq (rested rest) (λ s. left_seq (Q.Nth n d) s)) r → Takes (left_step (T.Nth n d c)) r
nth_steps n d c rest r e h = same (ap (λ v. seq v (λ s. left_seq (Q.Nth n d) s)) e) h
