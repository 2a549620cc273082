-- What the size of a set says of lists without repeats.
use Rattle.std.proofs.Common.{◌≡◌, ℕ, suc, ◌<◌, ◌≤◌, false, List, [], ◌∷◌, length, refl, ap, arith}
use Rattle.seq_meaning.specs.Names.{Name}
use Rattle.seq_meaning.specs.Counts.{IsIn, here, there, Distinct, once_more, HasSize, has_size, HasAtMost}
use Rattle.seq_meaning.proofs.NameTests.{is_among, among_is}

-- a name that isn't found is no member
pub none_among : {x : Name} (l : List Name) → is_among x l ≡ false → ¬ (IsIn x l)
none_among l p i = let q = among_is i in absurd cc

module _ {A : Type 0} where
  -- the list without a member
  without : {x : A} (l : List A) → IsIn x l → List A
  without [] i = []
  without (y ∷ l) here = l
  without (y ∷ l) (there i) = y ∷ without l i

  one_less : {x : A} (l : List A) (i : IsIn x l) → length l ≡ suc (length (without l i))
  unfolding without
  one_less [] i = elim i [ ]
  one_less (y ∷ l) here = refl
  one_less (y ∷ l) (there i) = ap suc (one_less l i)

  stays : {x y : A} (l : List A) (i : IsIn x l) → IsIn y l → ¬ (y ≡ x) → IsIn y (without l i)
  unfolding without
  stays [] i j n = elim i [ ]
  stays (z ∷ l) here here n = absurd (n refl)
  stays (z ∷ l) here (there j) n = j
  stays (z ∷ l) (there i) here n = here
  stays (z ∷ l) (there i) (there j) n = there (stays l i j n)

  -- it isn't longer than a list that has all of its members
  no_longer : (l m : List A) → Distinct l → ((x : A) → IsIn x l → IsIn x m) → length l ≤ length m
  no_longer [] m d h = omega arith
  no_longer (x ∷ l) m (once_more n d) h =
      let i = h x here in
      let r = no_longer l (without m i) d (λ y j. stays m i (h y (there j)) (λ e. n (rw e at j))) in
      let s = one_less m i in
      omega arith

  pub fits_of : {P : A → Type 0} {size : ℕ} → HasSize P size → (cells : ℕ) → size ≤ cells → HasAtMost P cells
  fits_of (has_size m e all only len) cells h l d g =
      let r = no_longer l m d (λ x i. only x (g x i)) in
      omega arith

  pub too_many : {P : A → Type 0} {size : ℕ} → HasSize P size → (cells : ℕ) → cells < size → ¬ (HasAtMost P cells)
  too_many (has_size m e all only len) cells h most = let r = most m e all in absurd (omega arith)

  -- a set has one size
  pub one_size : {P : A → Type 0} {n m : ℕ} → HasSize P n → HasSize P m → n ≡ m
  one_size (has_size l d all only p) (has_size m e all' only' q) =
      let a = no_longer l m d (λ x i. only' x (all x i)) in
      let b = no_longer m l e (λ x i. only x (all' x i)) in
      omega arith
