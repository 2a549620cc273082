-- How a loop over the arguments goes along the row.
use Rattle.std.proofs.Common.{◌≡◌, ℕ, zero, suc, ◌+◌, ◌<◌, ℤ, ◌-ℤ◌, Ok, Err, Bool, true, false, ◌&&◌, List, [], ◌∷◌, length, drop, get_or, Option, Some, None, refl, ap, sym, ◌∙◌, arith}
use Rattle.seq_base.specs.declared.thrown.Thrown.TheVariants.{Overflow}
use Rattle.seq_values.specs.Model as M
use Rattle.seq_values.specs.Plain.{plain, plains}
use Rattle.seq_values.specs.declared.value.Value.{Value}
use Rattle.seq_plan.specs.Plan.{Plan, give, throw}
use Rattle.core_rows.specs.Arithmetic.{also, integers, on_integers, of_any, of_some, first_and_others, minus, from_left, left_of, each_pair, fits}
use Rattle.std.specs.declared.result.Result.{Result}
use Rattle.seq_base.specs.declared.thrown.Thrown.{Thrown}
use Rattle.core_fns.specs.Answering.{Tells, number, kept, next_of}

-- ## What is left of a row, by what the loop has

abbrev pub left_sum : (ℤ → ℤ → ℤ) → Option ℤ → List ℤ → Plan ℕ
left_sum op (Some n) ns = from_left op n ns
left_sum op None ns = throw Overflow

abbrev pub left_choice : (ℤ → ℤ → ℤ) → ℤ → List ℤ → Plan ℕ
left_choice op n ns = give (M.int (left_of op n ns))

abbrev pub left_pairs : (ℤ → ℤ → Bool) → ℤ → Bool → List ℤ → Plan ℕ
left_pairs test n b ns = give (M.bool (b && each_pair test n ns))

-- ## One argument

is_number : (v : M.Value ℕ) (n : ℤ) → number v ≡ Some n → v ≡ M.int n
is_number M.nil n e = absurd cc
is_number (M.bool b) n e = absurd cc
is_number (M.int m) n e = let p : m ≡ n = cc in ap M.int p
is_number (M.keyword k) n e = absurd cc
is_number (M.text t) n e = absurd cc
is_number (M.vector xs) n e = absurd cc
is_number (M.function t xs) n e = absurd cc
is_number (M.reduced v) n e = absurd cc
is_number (M.cell c) n e = absurd cc
is_number M.empty n e = absurd cc
is_number (M.cons xs r) n e = absurd cc
is_number (M.chunk xs r) n e = absurd cc
is_number (M.range from at end) n e = absurd cc
is_number (M.vec_seq xs at) n e = absurd cc

no_number : (v : M.Value ℕ) (vs : List (M.Value ℕ)) → number v ≡ None → integers (v ∷ vs) ≡ None
no_number M.nil vs e = refl
no_number (M.bool b) vs e = refl
no_number (M.int m) vs e = absurd cc
no_number (M.keyword k) vs e = refl
no_number (M.text t) vs e = refl
no_number (M.vector xs) vs e = refl
no_number (M.function t xs) vs e = refl
no_number (M.reduced v) vs e = refl
no_number (M.cell c) vs e = refl
no_number M.empty vs e = refl
no_number (M.cons xs r) vs e = refl
no_number (M.chunk xs r) vs e = refl
no_number (M.range from at end) vs e = refl
no_number (M.vec_seq xs at) vs e = refl

and_more : (k l : List ℤ → Plan ℕ) (n : ℤ) (o : Option (List ℤ)) → ((ns : List ℤ) → l ns ≡ k (n ∷ ns)) → on_integers l o ≡ on_integers k (also n o)
and_more k l n None h = refl
and_more k l n (Some ns) h = h ns

-- ## The loop

drop_here : (xs : List Value) (i : ℕ) (x : Value) → i < length xs → x ≡ get_or xs i x → drop i xs ≡ x ∷ drop (i + 1) xs
drop_here [] i x b p = absurd (omega arith)
drop_here (y ∷ xs) zero x b p = let e : y ≡ x = sym p in ap (λ z. z ∷ xs) e
drop_here (y ∷ xs) (suc i) x b p =
    let e : suc i + 1 ≡ suc (i + 1) = omega arith in
    rw e (drop_here xs i x (omega arith) p)

pub goes_on : (k l : List ℤ → Plan ℕ) (xs : List Value) (i : ℕ) (x : Value) (n : ℤ) → i < length xs → x ≡ get_or xs i x → number (plain x) ≡ Some n → ((ns : List ℤ) → l ns ≡ k (n ∷ ns)) → of_any l (plains (drop (i + 1) xs)) ≡ of_any k (plains (drop i xs))
goes_on k l xs i x n b p e h =
    and_more k l n (integers (plains (drop (i + 1) xs))) h
    ∙ ap (λ v. on_integers k (integers (v ∷ plains (drop (i + 1) xs)))) (sym (is_number (plain x) n e))
    ∙ ap (λ ys. of_any k (plains ys)) (sym (drop_here xs i x b p))

-- the first of some
pub first_of_some : (k : ℤ → List ℤ → Plan ℕ) (all : List (M.Value ℕ)) (n : ℤ) (xs : List (M.Value ℕ)) → all ≡ M.int n ∷ xs → of_some k all ≡ of_any (k n) xs
first_of_some k all n xs e = ap (of_some k) e ∙ sym (and_more (first_and_others k) (k n) n (integers xs) (λ ns. refl))

-- ## Steps

sum_kept : (op : ℤ → ℤ → ℤ) (n m : ℤ) (ns : List ℤ) (b : Bool) → fits (op n m) ≡ b → left_sum op (kept (op n m)) ns ≡ from_left op n (m ∷ ns)
sum_kept op n m ns true e = rw e refl
sum_kept op n m ns false e = rw e refl

pub sum_step : (op : ℤ → ℤ → ℤ) (o : Option ℤ) (m : ℤ) (p : Option ℤ) → p ≡ next_of op o m → (ns : List ℤ) → left_sum op p ns ≡ left_sum op o (m ∷ ns)
sum_step op (Some n) m p e ns = ap (λ q. left_sum op q ns) e ∙ sum_kept op n m ns (fits (op n m)) refl
sum_step op None m p e ns = ap (λ q. left_sum op q ns) e

-- ## Several numbers after `-`

also_many : (n m : ℤ) (o : Option (List ℤ)) → on_integers (minus {C = ℕ} n) (also m o) ≡ on_integers (from_left ◌-ℤ◌ n) (also m o)
also_many n m None = refl
also_many n m (Some ns) = refl

by_number : (n : ℤ) (v : M.Value ℕ) (vs : List (M.Value ℕ)) (o : Option ℤ) → number v ≡ o → of_any (minus n) (v ∷ vs) ≡ of_any (from_left ◌-ℤ◌ n) (v ∷ vs)
by_number n v vs None e = ap (on_integers (minus n)) (no_number v vs e) ∙ sym (ap (on_integers (from_left ◌-ℤ◌ n)) (no_number v vs e))
by_number n v vs (Some m) e =
    let is = is_number v m e in
    ap (λ w. of_any (minus n) (w ∷ vs)) is ∙ also_many n m (integers vs) ∙ sym (ap (λ w. of_any (from_left ◌-ℤ◌ n) (w ∷ vs)) is)

pub minus_many : (n m : ℤ) (xs : List Value) → m ≡ n → 0 < length xs → of_any (minus n) (plains xs) ≡ of_any (from_left ◌-ℤ◌ m) (plains xs)
minus_many n m [] e b = absurd (omega arith)
minus_many n m (x ∷ xs) e b = by_number n (plain x) (plains xs) (number (plain x)) refl ∙ ap (λ k. of_any (from_left ◌-ℤ◌ k) (plains (x ∷ xs))) (sym e)

-- what tells one plan tells each that is the same
pub tells_same : (r : Result Value Thrown) (p q : Plan ℕ) → q ≡ p → Tells r p → Tells r q
tells_same (Ok v) p q e h = (e ∙ h.0, h.1)
tells_same (Err why) p q e h = e ∙ h
