-- Calls of compositions.
use Rattle.std.proofs.Common.{◌≡◌, ℕ, zero, suc, ◌+◌, ◌-◌, ◌<◌, List, [], ◌∷◌, length, drop, refl, ap, sym, ◌∙◌, subst, arith}
use Rattle.std.proofs.lemmas.List.{length-map}
use Rattle.seq_values.specs.Model as M
use Rattle.seq_values.specs.Plain.{plain, plains}
use Rattle.seq_values.specs.declared.value.Value.{Value}
use Rattle.seq_plan.specs.Plan.{call, give}
use Rattle.seq_plan.specs.Nodes.{value_at}
use Rattle.core_rows.specs.Table.{composed}
use Rattle.core_rules.specs.Left.{called_back}

-- the value at a place
pub value_there : (xs : List (M.Value ℕ)) (at : ℕ) (v : M.Value ℕ) (ys : List (M.Value ℕ)) → drop at xs ≡ v ∷ ys → value_at xs at ≡ v
value_there [] zero v ys e = absurd cc
value_there [] (suc at) v ys e = absurd cc
value_there (x ∷ xs) zero v ys e = cc
value_there (x ∷ xs) (suc at) v ys e = value_there xs at v ys e

behind : (xs : List (M.Value ℕ)) (at : ℕ) (v : M.Value ℕ) (ys : List (M.Value ℕ)) → drop at xs ≡ v ∷ ys → drop (suc at) xs ≡ ys
behind [] zero v ys e = absurd cc
behind [] (suc at) v ys e = absurd cc
behind (x ∷ xs) zero v ys e = cc
behind (x ∷ xs) (suc at) v ys e = behind xs at v ys e

-- the functions from a place on are called, the last first, and then those before the place
composed_from : (gs fs xs : List (M.Value ℕ)) (f : M.Value ℕ) (j : ℕ) → drop j gs ≡ f ∷ fs → composed (f ∷ fs) xs (called_back gs j) ≡ call (value_at gs (j + length fs)) xs (called_back gs (j + length fs))
composed_from gs [] xs f j e =
    let n : j ≡ j + 0 = omega arith in
    subst (λ m. call f xs (called_back gs j) ≡ call (value_at gs m) xs (called_back gs m)) n (ap (λ v. call v xs (called_back gs j)) (sym (value_there gs j f [] e)))
composed_from gs (g ∷ fs) xs f j e =
    let n : suc j + length fs ≡ j + suc (length fs) = omega arith in
    ap (λ v. composed (g ∷ fs) xs (λ y. call v (y ∷ []) (called_back gs j))) (sym (value_there gs j f (g ∷ fs) e))
    ∙ composed_from gs fs xs g (suc j) (behind gs j f (g ∷ fs) e)
    ∙ ap (λ m. call (value_at gs m) xs (called_back gs m)) n

pub composed_last : (gs xs : List (M.Value ℕ)) (m : ℕ) → length gs ≡ suc m → composed gs xs give ≡ call (value_at gs m) xs (called_back gs m)
composed_last [] xs m e = absurd (omega (arith, e))
composed_last (g ∷ fs) xs m e =
    let n : 0 + length fs ≡ m = omega (arith, e) in
    composed_from (g ∷ fs) fs xs g 0 refl ∙ ap (λ k. call (value_at (g ∷ fs) k) xs (called_back (g ∷ fs) k)) n

drop_plain : (xs : List Value) (at : ℕ) → drop at (plains xs) ≡ plains (drop at xs)
drop_plain [] zero = refl
drop_plain [] (suc at) = refl
drop_plain (x ∷ xs) zero = refl
drop_plain (x ∷ xs) (suc at) = drop_plain xs at

-- the same of the values of the code
pub last_calls : (gs args : List Value) (left : ℕ) (f : Value) (after : List Value) → left ≡ length gs - 1 → 0 < length gs → drop left gs ≡ f ∷ after → call (plain f) (plains args) (called_back (plains gs) left) ≡ composed (plains gs) (plains args) give
last_calls gs args left f after l s d =
    let n : length (plains gs) ≡ suc left = length-map gs plain ∙ omega (arith, l, s) in
    ap (λ v. call v (plains args) (called_back (plains gs) left)) (sym (value_there (plains gs) left (plain f) (plains after) (drop_plain gs left ∙ ap plains d)))
    ∙ sym (composed_last (plains gs) (plains args) left n)

-- an earlier function is called
pub earlier_calls : (gs : List Value) (left : ℕ) (f a : Value) (after args : List Value) → drop left gs ≡ f ∷ after → plains args ≡ plain a ∷ [] → call (plain f) (plains args) (called_back (plains gs) left) ≡ call (value_at (plains gs) left) (plain a ∷ []) (called_back (plains gs) left)
earlier_calls gs left f a after args d e = (λ i. call (sym (value_there (plains gs) left (plain f) (plains after) (drop_plain gs left ∙ ap plains d)) i) (e i) (called_back (plains gs) left))
