-- The sizes of sets that are joined from those of the members of a list.
use Rattle.std.proofs.Common.{◌≡◌, ◌⊎◌, inl, inr, ℕ, zero, suc, ◌+◌, ◌≤◌, List, [], ◌∷◌, ◌++◌, length, Some, slice_get, refl, ap, sym, subst, arith, length-append}
use Rattle.std.specs.Prelude.{sum_by}
use Rattle.std.proofs.lemmas.List.Sums.{sum_by-cons}
use Rattle.seq_meaning.specs.Counts.{IsIn, here, there, Distinct, none_twice, once_more, HasSize, has_size, HasAtMost}

module _ {A : Type 0} where
  in_left : {x : A} {xs : List A} (ys : List A) → IsIn x xs → IsIn x (xs ++ ys)
  in_left ys here = here
  in_left ys (there h) = there (in_left ys h)

  in_right : {x : A} (xs : List A) {ys : List A} → IsIn x ys → IsIn x (xs ++ ys)
  in_right [] h = h
  in_right (y ∷ xs) h = there (in_right xs h)

  in_either : {x : A} (xs ys : List A) → IsIn x (xs ++ ys) → IsIn x xs ⊎ IsIn x ys
  in_either [] ys h = inr h
  in_either (y ∷ xs) ys here = inl here
  in_either {x = x} (y ∷ xs) ys (there h) = go (in_either xs ys h)
    where
      go : IsIn x xs ⊎ IsIn x ys → IsIn x (y ∷ xs) ⊎ IsIn x ys
      go (inl k) = inl (there k)
      go (inr k) = inr k

  pub distinct_both : {xs ys : List A} → Distinct xs → Distinct ys → ((x : A) → IsIn x xs → IsIn x ys → ⊥) → Distinct (xs ++ ys)
  distinct_both none_twice e apart = e
  distinct_both {ys = ys} (once_more {x = x} {xs = xs} f d) e apart = once_more (λ h. new (in_either xs ys h)) (distinct_both d e (λ y h k. apart y (there h) k))
    where
      new : IsIn x xs ⊎ IsIn x ys → ⊥
      new (inl h) = f h
      new (inr h) = apart x here h

  pub distinct_front : (xs ys : List A) → Distinct (xs ++ ys) → Distinct xs
  distinct_front [] ys d = none_twice
  distinct_front (x ∷ xs) ys (once_more f d) = once_more (λ h. f (in_left ys h)) (distinct_front xs ys d)

  pub distinct_push : {xs : List A} {x : A} → Distinct xs → ¬ (IsIn x xs) → Distinct (xs ++ x ∷ [])
  distinct_push {xs = xs} {x = x} d f = distinct_both d (once_more (λ h. elim h [ ]) none_twice) (λ y h k. only y h k)
    where
      only : (y : A) → IsIn y xs → IsIn y (x ∷ []) → ⊥
      only y h here = f h
      only y h (there k) = elim k [ ]

  pub place_in : (xs : List A) (i : ℕ) (x : A) → slice_get xs i ≡ Some x → IsIn x xs
  place_in [] i x p = absurd cc
  place_in (y ∷ xs) zero x p = let e : y ≡ x = cc in subst (λ z. IsIn x (z ∷ xs)) (sym e) here
  place_in (y ∷ xs) (suc i) x p = there (place_in xs i x p)

  -- each member of a list without repeats stands at one place
  pub one_place : {xs : List A} → Distinct xs → (i j : ℕ) (x : A) → slice_get xs i ≡ Some x → slice_get xs j ≡ Some x → i ≡ j
  one_place none_twice i j x p q = absurd cc
  one_place (once_more f d) zero zero x p q = refl
  one_place (once_more {x = y} {xs = xs} f d) zero (suc j) x p q = let e : y ≡ x = cc in absurd (f (subst (λ z. IsIn z xs) (sym e) (place_in xs j x q)))
  one_place (once_more {x = y} {xs = xs} f d) (suc i) zero x p q = let e : y ≡ x = cc in absurd (f (subst (λ z. IsIn z xs) (sym e) (place_in xs i x p)))
  one_place (once_more f d) (suc i) (suc j) x p q = ap suc (one_place d i j x p q)

-- the members of a list but for one of them
record Without {A : Type 0} (x : A) (xs : List A) : Type 0 where
  rest : List A
  one_less : length xs ≡ suc (length rest)
  others : (y : A) → IsIn y xs → (x ≡ y) ⊎ IsIn y rest

without_later : {A : Type 0} {x : A} {xs : List A} (z : A) → Without x xs → Without x (z ∷ xs)
without_later {A = A} {x = x} {xs = xs} z w = record { rest = z ∷ w.rest; one_less = ap suc w.one_less; others = λ y k. later k }
  where
    other : {y : A} → (x ≡ y) ⊎ IsIn y w.rest → (x ≡ y) ⊎ IsIn y (z ∷ w.rest)
    other (inl e) = inl e
    other (inr k) = inr (there k)

    later : {y : A} → IsIn y (z ∷ xs) → (x ≡ y) ⊎ IsIn y (z ∷ w.rest)
    later here = inr here
    later (there k) = other (w.others _ k)

without_first : {A : Type 0} (x : A) (xs : List A) → Without x (x ∷ xs)
without_first {A = A} x xs = record { rest = xs; one_less = refl; others = λ y h. first h }
  where
    first : {y : A} → IsIn y (x ∷ xs) → (x ≡ y) ⊎ IsIn y xs
    first here = inl refl
    first (there h) = inr h

without : {A : Type 0} {x : A} {xs : List A} → IsIn x xs → Without x xs
without {x = x} (here {xs = xs}) = without_first x xs
without (there {y = z} h) = without_later z (without h)

-- a list without repeats is no longer than one that has its members
pub no_longer : {A : Type 0} {xs ys : List A} → Distinct xs → ((x : A) → IsIn x xs → IsIn x ys) → length xs ≤ length ys
no_longer none_twice all = omega arith
no_longer {A = A} {ys = ys} (once_more {x = x} {xs = xs} new d) all =
    let w = without (all x here) in
    let shorter : length xs ≤ length w.rest = no_longer d (λ y h. left y h (w.others y (all y (there h)))) in
    let one = w.one_less in omega arith
  where
    left : (y : A) → IsIn y xs → (x ≡ y) ⊎ IsIn y (without (all x here)).rest → IsIn y (without (all x here)).rest
    left y h (inl e) = absurd (new (subst (λ z. IsIn z xs) (sym e) h))
    left y h (inr k) = k

-- a set with so many members has at most so many
pub at_most : {A : Type 0} {P : A → Type 0} {size : ℕ} → HasSize P size → HasAtMost P size
at_most {size = size} (has_size l d sound all long) = λ xs e f. (let n : length xs ≤ length l = no_longer e (λ x h. all x (f x h)) in omega arith)

module _ {N : Type 0} where
  pub size_none : {P : N → Type 0} → ((n : N) → ¬ (P n)) → HasSize P 0
  size_none h = has_size [] none_twice (λ n k. elim k [ ]) (λ n k. absurd (h n k)) refl

  pub size_one : {P : N → Type 0} (n : N) → P n → ((m : N) → P m → n ≡ m) → HasSize P 1
  size_one {P = P} n p once = has_size (n ∷ []) (once_more (λ h. elim h [ ]) none_twice) (λ m h. only m h) (λ m h. subst (λ x. IsIn x (n ∷ [])) (once m h) here) refl
    where
      only : (m : N) → IsIn m (n ∷ []) → P m
      only m here = p
      only m (there h) = elim h [ ]

  pub size_same : {P Q : N → Type 0} {k : ℕ} → HasSize P k → ((n : N) → P n → Q n) → ((n : N) → Q n → P n) → HasSize Q k
  size_same (has_size l d s c e) f g = has_size l d (λ n h. f n (s n h)) (λ n h. c n (g n h)) e

  pub size_both : {P Q R : N → Type 0} {k m : ℕ} → HasSize P k → HasSize Q m → ((n : N) → P n → Q n → ⊥) → ((n : N) → R n → P n ⊎ Q n) → ((n : N) → P n → R n) → ((n : N) → Q n → R n) → HasSize R (k + m)
  size_both {P = P} {Q = Q} {R = R} (has_size l d s c e) (has_size l' d' s' c' e') apart split left right =
      has_size (l ++ l') (distinct_both d d' (λ n h h'. apart n (s n h) (s' n h'))) (λ n h. sound n (in_either l l' h)) (λ n h. complete n (split n h)) (let f = length-append l l' in omega arith)
    where
      sound : (n : N) → IsIn n l ⊎ IsIn n l' → R n
      sound n (inl h) = left n (s n h)
      sound n (inr h) = right n (s' n h)

      complete : (n : N) → P n ⊎ Q n → IsIn n (l ++ l')
      complete n (inl h) = in_left l' (c n h)
      complete n (inr h) = in_right l (c' n h)

  -- it is in the set of a member
  pub data Somewhere {X : Type 0} (Q : ℕ → X → N → Type 0) (xs : List X) (n : N) : Type 0 where
    somewhere : (i : ℕ) (x : X) → slice_get xs i ≡ Some x → Q i x n → Somewhere Q xs n

  -- where the sets of the members are apart, their union has as many members as they together
  pub size_sum : {X : Type 0} (Q : ℕ → X → N → Type 0) (size : X → ℕ) (xs : List X) → ((i : ℕ) (x : X) → slice_get xs i ≡ Some x → HasSize (Q i x) (size x)) → ((i j : ℕ) (x y : X) (n : N) → slice_get xs i ≡ Some x → slice_get xs j ≡ Some y → Q i x n → Q j y n → i ≡ j) → HasSize (Somewhere Q xs) (sum_by size xs)
  size_sum Q size [] each apart = size_none (λ n h. nowhere h)
    where
      nowhere : {n : N} → Somewhere Q [] n → ⊥
      nowhere (somewhere i x p q) = cc
  size_sum {X = X} Q size (x ∷ xs) each apart =
      subst (λ k. HasSize (Somewhere Q (x ∷ xs)) k) (sym (sum_by-cons size x xs))
      (size_both (each 0 x refl) (size_sum (λ i. Q (suc i)) size xs (λ i y p. each (suc i) y p) (λ i j y z n p q r s. (let e : suc i ≡ suc j = apart (suc i) (suc j) y z n p q r s in cc))) (λ n h k. not_both h k) (λ n h. split h) (λ n h. somewhere 0 x refl h) (λ n h. later h))
    where
      not_both : {n : N} → Q 0 x n → Somewhere (λ i. Q (suc i)) xs n → ⊥
      not_both {n = n} h (somewhere i y p q) = let e : 0 ≡ suc i = apart 0 (suc i) x y n refl p h q in absurd cc

      split : {n : N} → Somewhere Q (x ∷ xs) n → Q 0 x n ⊎ Somewhere (λ i. Q (suc i)) xs n
      split {n = n} (somewhere zero y p q) = let e : y ≡ x = cc in inl (subst (λ z. Q 0 z n) e q)
      split (somewhere (suc i) y p q) = inr (somewhere i y p q)

      later : {n : N} → Somewhere (λ i. Q (suc i)) xs n → Somewhere Q (x ∷ xs) n
      later (somewhere i y p q) = somewhere (suc i) y p q

pub sum_ones : {X : Type 0} (xs : List X) → sum_by (λ x. 1) xs ≡ length xs
sum_ones [] = refl
sum_ones (x ∷ xs) = let e = sum_by-cons (λ x. 1) x xs in let f = sum_ones xs in omega arith
