-- The values of the forms begun.
use Rattle.std.proofs.Common.{◌≡◌, ℕ, zero, suc, ◌+◌, ◌<◌, ◌≤◌, List, [], ◌∷◌, ◌++◌, length, take, get_or, refl, ap, sym, ◌∙◌, subst, arith}
use Rattle.std.specs.Prelude.{slice_set, unwrap_or}
use Rattle.std.proofs.lemmas.List.{take_all, take-append-le}
use Rattle.seq_values.specs.declared.value.Value.{Value}
use Rattle.seq_values.specs.declared.value.Value.TheVariants.{Nil}
use Rattle.cell_book.specs.declared.cell.Form.{Form}
use Rattle.cell_book.specs.Steps.{values_in}

pub values_long : (fs : List Form) → length (values_in fs) ≡ length fs
values_long [] = refl
values_long (f ∷ fs) = ap suc (values_long fs)

pub take_more : (fs : List Form) (n : ℕ) (f : Form) → n < length fs → f ≡ get_or fs n f → take (suc n) (values_in fs) ≡ take n (values_in fs) ++ unwrap_or f.value Nil ∷ []
take_more [] n f h e = absurd (omega arith)
take_more (g ∷ fs) zero f h e = ap (λ (x : Form). unwrap_or x.value Nil ∷ []) (sym e)
take_more (g ∷ fs) (suc n) f h e = ap (λ l. unwrap_or g.value Nil ∷ l) (take_more fs n f (omega arith) e)

pub take_next : (fs : List Form) (n : ℕ) (f : Form) → n < length fs → f ≡ get_or fs n f → take (n + 1) (values_in fs) ≡ take n (values_in fs) ++ unwrap_or f.value Nil ∷ []
take_next fs n f h e = let s : suc n ≡ n + 1 = omega arith in subst (λ m. take m (values_in fs) ≡ take n (values_in fs) ++ unwrap_or f.value Nil ∷ []) s (take_more fs n f h e)

pub take_whole : (fs : List Form) (n : ℕ) → length fs ≤ n → take n (values_in fs) ≡ values_in fs
take_whole fs n h = let e = values_long fs in take_all n (values_in fs) (omega arith)

pub values_push : (fs : List Form) (f : Form) → values_in (fs ++ f ∷ []) ≡ values_in fs ++ unwrap_or f.value Nil ∷ []
values_push [] f = refl
values_push (g ∷ fs) f = ap (λ l. unwrap_or g.value Nil ∷ l) (values_push fs f)

-- the first values stay, where a form is begun or one after them ends
pub take_push : (fs : List Form) (f : Form) (n : ℕ) → n ≤ length fs → take n (values_in (fs ++ f ∷ [])) ≡ take n (values_in fs)
take_push fs f n h = let e = values_long fs in ap (take n) (values_push fs f) ∙ take-append-le n (values_in fs) (unwrap_or f.value Nil ∷ []) (omega arith)

pub take_set : (fs : List Form) (f : Form) (n k : ℕ) → n ≤ k → take n (values_in (slice_set fs k f)) ≡ take n (values_in fs)
take_set [] f n k h = refl
take_set (g ∷ fs) f zero k h = refl
take_set (g ∷ fs) f (suc n) zero h = absurd (omega arith)
take_set (g ∷ fs) f (suc n) (suc k) h = ap (λ l. unwrap_or g.value Nil ∷ l) (take_set fs f n k (omega arith))

pub take_full : {X : Type 0} (xs : List X) → take (length xs) xs ≡ xs
take_full [] = refl
take_full (x ∷ xs) = ap (λ l. x ∷ l) (take_full xs)

-- fewer of the first
pub take_less : {X : Type 0} (xs : List X) (m n : ℕ) → m ≤ n → take m xs ≡ take m (take n xs)
take_less [] zero n h = refl
take_less [] (suc m) zero h = absurd (omega arith)
take_less [] (suc m) (suc n) h = refl
take_less (x ∷ xs) zero n h = refl
take_less (x ∷ xs) (suc m) zero h = absurd (omega arith)
take_less (x ∷ xs) (suc m) (suc n) h = ap (λ l. x ∷ l) (take_less xs m n (omega arith))

pub take_all_of : {X : Type 0} (xs : List X) (m n : ℕ) → n ≤ m → take n xs ≡ take m (take n xs)
take_all_of [] zero zero h = refl
take_all_of [] (suc m) zero h = refl
take_all_of [] zero (suc n) h = refl
take_all_of [] (suc m) (suc n) h = refl
take_all_of (x ∷ xs) zero zero h = refl
take_all_of (x ∷ xs) (suc m) zero h = refl
take_all_of (x ∷ xs) zero (suc n) h = absurd (omega arith)
take_all_of (x ∷ xs) (suc m) (suc n) h = ap (λ l. x ∷ l) (take_all_of xs m n (omega arith))

-- the first values before a form stay where it ends
pub settled_set : (fs : List Form) (k : ℕ) (q : Form) (settled : List Value) → settled ≡ take (length settled) (values_in fs) → take k settled ≡ take (length (take k settled)) (values_in (slice_set fs k q))
settled_set fs zero q [] e = refl
settled_set fs zero q (s ∷ settled) e = refl
settled_set fs (suc k) q [] e = refl
settled_set [] (suc k) q (s ∷ settled) e = absurd cc
settled_set (f ∷ fs) (suc k) q (s ∷ settled) e =
    let h : s ≡ unwrap_or f.value Nil = cc in
    let t : settled ≡ take (length settled) (values_in fs) = cc in
    ap (λ (v : Value). v ∷ take k settled) h ∙ ap (λ l. unwrap_or f.value Nil ∷ l) (settled_set fs k q settled t)
