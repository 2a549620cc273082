-- Lists with one item written over, or one more at the end.
use Rattle.std.proofs.Common.{◌≡◌, ◌≢◌, ℕ, zero, suc, ◌+◌, ◌<◌, ◌≤◌, Bool, true, false, cond, List, [], ◌∷◌, ◌++◌, length, Some, refl, ap, ◌∙◌, arith, ◌⊎◌, inl, inr, subst}
use Rattle.std.specs.Prelude.{slice_get, slice_set, count_by}
use Rattle.std.proofs.lemmas.Option.{none-some, same_Some, slice_get_within, get_or_from_slice_get}
use Rattle.std.proofs.lemmas.List.Sums.{sum_by-set, sum_by_push, sum_by-cons}

-- the last item, written over
pub set_last : {X : Type 0} (past : List X) (x y : X) (n : ℕ) → n ≡ length past → slice_set (past ++ x ∷ []) n y ≡ past ++ y ∷ []
set_last [] x y zero e = refl
set_last [] x y (suc n) e = absurd cc
set_last (z ∷ past) x y zero e = absurd cc
set_last (z ∷ past) x y (suc n) e = let f : n ≡ length past = cc in ap (λ l. z ∷ l) (set_last past x y n f)

pub get_last : {X : Type 0} (past : List X) (x : X) (n : ℕ) → n ≡ length past → slice_get (past ++ x ∷ []) n ≡ Some x
get_last [] x zero e = refl
get_last [] x (suc n) e = absurd cc
get_last (z ∷ past) x zero e = absurd cc
get_last (z ∷ past) x (suc n) e = let f : n ≡ length past = cc in get_last past x n f

pub get_longer : {X : Type 0} (xs : List X) (j : ℕ) (q x : X) → slice_get xs j ≡ Some x → slice_get (xs ++ q ∷ []) j ≡ Some x
get_longer [] j q x e = absurd (none-some x e)
get_longer (p ∷ xs) zero q x e = e
get_longer (p ∷ xs) (suc j) q x e = get_longer xs j q x e

-- what a reading after a push tells
pub get_snoc : {X : Type 0} (xs : List X) (j : ℕ) (q x : X) → slice_get (xs ++ q ∷ []) j ≡ Some x → ((j ≡ length xs) × (q ≡ x)) ⊎ (slice_get xs j ≡ Some x)
get_snoc [] zero q x e = inl (refl, same_Some q x e)
get_snoc [] (suc j) q x e = absurd (none-some x e)
get_snoc (p ∷ xs) zero q x e = inr e
get_snoc (p ∷ xs) (suc j) q x e = further (get_snoc xs j q x e)
  where
    further : ((j ≡ length xs) × (q ≡ x)) ⊎ (slice_get xs j ≡ Some x) → ((suc j ≡ suc (length xs)) × (q ≡ x)) ⊎ (slice_get xs j ≡ Some x)
    further (inl t) = inl (ap suc t.0, t.1)
    further (inr t) = inr t

pub same_or : (j i : ℕ) → (j ≡ i) ⊎ (j ≢ i)
same_or zero zero = inl refl
same_or zero (suc i) = inr (λ e. absurd cc)
same_or (suc j) zero = inr (λ e. absurd cc)
same_or (suc j) (suc i) = by (same_or j i)
  where
    by : (j ≡ i) ⊎ (j ≢ i) → (suc j ≡ suc i) ⊎ (suc j ≢ suc i)
    by (inl e) = inl (ap suc e)
    by (inr n) = inr (λ e. let f : j ≡ i = cc in n f)

pub below_or : (j i : ℕ) → (j < i) ⊎ (i ≤ j)
below_or j zero = inr (omega arith)
below_or zero (suc i) = inl (omega arith)
below_or (suc j) (suc i) = by (below_or j i)
  where
    by : (j < i) ⊎ (i ≤ j) → (suc j < suc i) ⊎ (suc i ≤ suc j)
    by (inl h) = inl (omega arith)
    by (inr h) = inr (omega arith)

pub set_other : {X : Type 0} (xs : List X) (i j : ℕ) (q : X) → j ≢ i → slice_get (slice_set xs i q) j ≡ slice_get xs j
set_other [] i j q n = refl
set_other (x ∷ xs) zero zero q n = absurd (n refl)
set_other (x ∷ xs) zero (suc j) q n = refl
set_other (x ∷ xs) (suc i) zero q n = refl
set_other (x ∷ xs) (suc i) (suc j) q n = set_other xs i j q (λ e. n (ap suc e))

pub set_here : {X : Type 0} (xs : List X) (i : ℕ) (p q : X) → slice_get xs i ≡ Some p → slice_get (slice_set xs i q) i ≡ Some q
set_here [] i p q e = absurd (none-some p e)
set_here (x ∷ xs) zero p q e = refl
set_here (x ∷ xs) (suc i) p q e = set_here xs i p q e

-- what a reading after a write tells
pub get_set : {X : Type 0} (xs : List X) (i j : ℕ) (q x : X) → slice_get (slice_set xs i q) j ≡ Some x → ((j ≡ i) × (q ≡ x)) ⊎ ((j ≢ i) × (slice_get xs j ≡ Some x))
get_set [] i j q x e = absurd (none-some x e)
get_set (p ∷ xs) zero zero q x e = inl (refl, same_Some q x e)
get_set (p ∷ xs) zero (suc j) q x e = inr ((λ h. absurd cc), e)
get_set (p ∷ xs) (suc i) zero q x e = inr ((λ h. absurd cc), e)
get_set (p ∷ xs) (suc i) (suc j) q x e = further (get_set xs i j q x e)
  where
    further : ((j ≡ i) × (q ≡ x)) ⊎ ((j ≢ i) × (slice_get xs j ≡ Some x)) → ((suc j ≡ suc i) × (q ≡ x)) ⊎ ((suc j ≢ suc i) × (slice_get xs j ≡ Some x))
    further (inl t) = inl (ap suc t.0, t.1)
    further (inr t) = inr ((λ h. let f : j ≡ i = cc in t.0 f), t.1)

pub length_set : {X : Type 0} (xs : List X) (i : ℕ) (q : X) → length (slice_set xs i q) ≡ length xs
length_set [] i q = refl
length_set (x ∷ xs) zero q = refl
length_set (x ∷ xs) (suc i) q = ap suc (length_set xs i q)

pub length_push : {X : Type 0} (xs : List X) (q : X) → length (xs ++ q ∷ []) ≡ suc (length xs)
length_push [] q = refl
length_push (x ∷ xs) q = ap suc (length_push xs q)

pub get_within : {X : Type 0} (xs : List X) (i : ℕ) → i < length xs → (x : X) × (slice_get xs i ≡ Some x)
get_within [] i h = absurd (omega arith)
get_within (x ∷ xs) zero h = (x, refl)
get_within (x ∷ xs) (suc i) h = get_within xs i (omega arith)

-- counts
pub count_cons : {X : Type 0} (f : X → Bool) (x : X) (xs : List X) → count_by f (x ∷ xs) ≡ cond (f x) 1 0 + count_by f xs
count_cons f x xs = sum_by-cons (λ y. cond (f y) 1 0) x xs

pub count_push : {X : Type 0} (f : X → Bool) (xs : List X) (x : X) → count_by f (xs ++ x ∷ []) ≡ count_by f xs + cond (f x) 1 0
count_push f xs x = let e = sum_by_push (λ y. cond (f y) 1 0) xs x in omega arith

pub count_set : {X : Type 0} (f : X → Bool) (xs : List X) (i : ℕ) (p q : X) → slice_get xs i ≡ Some p → count_by f (slice_set xs i q) + cond (f p) 1 0 ≡ count_by f xs + cond (f q) 1 0
count_set {X} f xs i p q at =
    subst (λ (x : X). count_by f (slice_set xs i q) + cond (f x) 1 0 ≡ count_by f xs + cond (f q) 1 0) (get_or_from_slice_get xs i p p at)
    (sum_by-set (λ (x : X). cond (f x) 1 0) xs i q p (slice_get_within xs i p at))

pub is_one : (b : Bool) → b ≡ true → ◌≡◌ {A = ℕ} (cond b 1 0) 1
is_one b e = ap (λ (t : Bool). cond t 1 0) e

pub is_none : (b : Bool) → b ≡ false → ◌≡◌ {A = ℕ} (cond b 1 0) 0
is_none b e = ap (λ (t : Bool). cond t 1 0) e

pub counts_one : {X : Type 0} (f : X → Bool) (xs : List X) (i : ℕ) (x : X) → slice_get xs i ≡ Some x → f x ≡ true → 1 ≤ count_by f xs
counts_one f [] i x e t = absurd (none-some x e)
counts_one f (y ∷ xs) zero x e t =
    let c = count_cons f y xs in
    let u = is_one (f y) (ap f (same_Some y x e) ∙ t) in omega arith
counts_one f (y ∷ xs) (suc i) x e t =
    let c = count_cons f y xs in
    let k = counts_one f xs i x e t in omega arith

pub counts_two : {X : Type 0} (f : X → Bool) (xs : List X) (i j : ℕ) (x y : X) → i ≢ j → slice_get xs i ≡ Some x → slice_get xs j ≡ Some y → f x ≡ true → f y ≡ true → 2 ≤ count_by f xs
counts_two f [] i j x y n e g t u = absurd (none-some x e)
counts_two f (z ∷ xs) zero zero x y n e g t u = absurd (n refl)
counts_two f (z ∷ xs) zero (suc j) x y n e g t u =
    let c = count_cons f z xs in
    let h = is_one (f z) (ap f (same_Some z x e) ∙ t) in
    let k = counts_one f xs j y g u in omega arith
counts_two f (z ∷ xs) (suc i) zero x y n e g t u =
    let c = count_cons f z xs in
    let h = is_one (f z) (ap f (same_Some z y g) ∙ u) in
    let k = counts_one f xs i x e t in omega arith
counts_two f (z ∷ xs) (suc i) (suc j) x y n e g t u =
    let c = count_cons f z xs in
    let k = counts_two f xs i j x y (λ h. n (ap suc h)) e g t u in omega arith

pub counts_none : {X : Type 0} (f : X → Bool) (xs : List X) → ((i : ℕ) (x : X) → slice_get xs i ≡ Some x → f x ≡ false) → count_by f xs ≡ 0
counts_none f [] never = refl
counts_none f (y ∷ xs) never =
    let c = count_cons f y xs in
    let h = is_none (f y) (never 0 y refl) in
    let k = counts_none f xs (λ i x e. never (suc i) x e) in omega arith
