-- The claims of a book by their numbers, over each step.
use Rattle.std.proofs.Common.{◌≡◌, ◌≢◌, ℕ, zero, suc, ◌+◌, ◌<◌, ◌≤◌, Bool, true, false, cond, List, [], ◌∷◌, ◌++◌, length, get_or, Some, None, Option, refl, ap, sym, subst, ◌∙◌, arith, ◌⊎◌, inl, inr, le_refl}
use Rattle.std.specs.Prelude.{slice_get, slice_set}
use Rattle.std.proofs.lemmas.Option.{none-some, same_Some, slice_get_within, slice_get_read}
use Rattle.cell_book.specs.declared.claims.Spot.{Spot}
use Rattle.cell_book.specs.declared.claims.Spot.TheVariants as At
use Rattle.cell_book.specs.declared.claims.Entry.{Entry}
use Rattle.cell_book.specs.Account.{Account, cell_at, opens, IsSound}
use Rattle.cell_book.specs.Glimpses.{glimpse, Reaches, at_claim}
use Rattle.cell_book.specs.Registers.{closed_at, EndedBefore, FirstOpen, IsLowest, WasOpened, IsRegistered}
use Rattle.cell_book.proofs.Lists.{get_snoc, get_longer, get_within, length_push, same_or}
use Rattle.cell_book.proofs.Opening.{at_claim_same, at_claim_other}

-- the first that is open
pub first_none : FirstOpen [] 0
first_none = record { within = le_refl 0; before = λ n x h e. absurd (none-some x e); at = λ x e. absurd (none-some x e) }

pub first_push : (xs : List Entry) (n : ℕ) (e : Entry) → e.ended ≡ false → FirstOpen xs n → FirstOpen (xs ++ e ∷ []) n
first_push xs n e o f = record {
  within = (let l = length_push xs e in let w = f.within in omega arith);
  before = λ m x h g. old m x h (get_snoc xs m e x g);
  at = λ x g. last x (get_snoc xs n e x g);
}
  where
    old : (m : ℕ) (x : Entry) → m < n → ((m ≡ length xs) × (e ≡ x)) ⊎ (slice_get xs m ≡ Some x) → x.ended ≡ true
    old m x h (inl t) = let k = t.0 in let w = f.within in absurd (omega arith)
    old m x h (inr t) = f.before m x h t

    last : (x : Entry) → ((n ≡ length xs) × (e ≡ x)) ⊎ (slice_get xs n ≡ Some x) → x.ended ≡ false
    last x (inl t) = ap (λ (y : Entry). y.ended) (sym t.1) ∙ o
    last x (inr t) = f.at x t

-- looking for it
pub ended_next : (xs : List Entry) (n : ℕ) (y : Entry) → EndedBefore xs n → n < length xs → y ≡ get_or xs n y → y.ended ≡ true → EndedBefore xs (n + 1)
ended_next xs n y b h g t = λ m x l e. at m x l e (same_or m n)
  where
    at : (m : ℕ) (x : Entry) → m < n + 1 → slice_get xs m ≡ Some x → (m ≡ n) ⊎ (m ≢ n) → x.ended ≡ true
    at m x l e (inl s) = ap (λ (z : Entry). z.ended) (same_Some x y (sym e ∙ (ap (slice_get xs) s ∙ slice_get_read xs (length xs) n y refl h g))) ∙ t
    at m x l e (inr d) = b m x (below d l) e
      where
        below : m ≢ n → m < n + 1 → m < n
        below d l = omega arith

pub first_found : (xs : List Entry) (n : ℕ) (y : Entry) → EndedBefore xs n → n < length xs → y ≡ get_or xs n y → y.ended ≡ false → FirstOpen xs n
first_found xs n y b h g t = record { within = omega arith; before = b; at = λ x e. ap (λ (z : Entry). z.ended) (same_Some x y (sym e ∙ slice_get_read xs (length xs) n y refl h g)) ∙ t }

pub first_past : (xs : List Entry) (n : ℕ) → EndedBefore xs n → n ≤ length xs → length xs ≤ n → FirstOpen xs n
first_past xs n b l h = record { within = l; before = b; at = λ x e. (let w = slice_get_within xs n x e in absurd (omega arith)) }

-- the lowest is the first
pub lowest_none : (xs : List Entry) (n : ℕ) → FirstOpen xs n → length xs ≤ n → IsLowest xs None
lowest_none xs n f h = λ m x l e. f.before m x (omega arith) e

pub lowest_some : (xs : List Entry) (n : ℕ) → FirstOpen xs n → n < length xs → IsLowest xs (Some n)
lowest_some xs n f h = let x = get_within xs n h in (x.0, x.1, f.at x.0 x.1, f.before)

-- one claim is taken back
pub first_back : (all xs : List Entry) (e : Entry) (n : ℕ) → all ≡ xs ++ e ∷ [] → FirstOpen all n → length xs < n → FirstOpen xs (length xs)
first_back all xs e n is f h = record { within = le_refl (length xs); before = λ m x g i. f.before m x (below m g) (ap (λ l. slice_get l m) is ∙ get_longer xs m e x i); at = λ x i. (let w = slice_get_within xs (length xs) x i in absurd (omega arith)) }
  where
    below : (m : ℕ) → m < length xs → m < n
    below m g = omega arith

pub first_still : (all xs : List Entry) (e : Entry) (n : ℕ) → all ≡ xs ++ e ∷ [] → FirstOpen all n → n ≤ length xs → FirstOpen xs n
first_still all xs e n is f h = record { within = h; before = λ m x g i. f.before m x g (ap (λ l. slice_get l m) is ∙ get_longer xs m e x i); at = λ x i. f.at x (ap (λ l. slice_get l n) is ∙ get_longer xs n e x i) }

pub same_front : (xs ys : List Entry) (x y : Entry) → xs ++ x ∷ [] ≡ ys ++ y ∷ [] → xs ≡ ys
same_front [] [] x y e = refl
same_front [] (z ∷ []) x y e = absurd cc
same_front [] (z ∷ (u ∷ ys)) x y e = absurd cc
same_front (z ∷ []) [] x y e = absurd cc
same_front (z ∷ (u ∷ xs)) [] x y e = absurd cc
same_front (z ∷ xs) (u ∷ ys) x y e =
    let h : z ≡ u = cc in
    let t : xs ++ x ∷ [] ≡ ys ++ y ∷ [] = cc in ap (λ (w : Entry). w ∷ xs) h ∙ ap (λ l. u ∷ l) (same_front xs ys x y t)

-- one claim ends
pub closed_long : (n : ℕ) (xs : List Entry) → length (closed_at n xs) ≡ length xs
closed_long n [] = refl
closed_long zero (x ∷ xs) = refl
closed_long (suc n) (x ∷ xs) = ap suc (closed_long n xs)

pub closed_past : (n : ℕ) (xs : List Entry) → length xs ≤ n → closed_at n xs ≡ xs
closed_past n [] h = refl
closed_past zero (x ∷ xs) h = absurd (omega arith)
closed_past (suc n) (x ∷ xs) h = ap (λ l. x ∷ l) (closed_past n xs (omega arith))

pub closed_set : (n : ℕ) (xs : List Entry) (x : Entry) → slice_get xs n ≡ Some x → slice_set xs n (record x { ended = true }) ≡ closed_at n xs
closed_set n [] x e = absurd (none-some x e)
closed_set zero (y ∷ xs) x e = ap (λ (z : Entry). record z { ended = true } ∷ xs) (sym (same_Some y x e))
closed_set (suc n) (y ∷ xs) x e = ap (λ l. y ∷ l) (closed_set n xs x e)

pub closed_written : (n : ℕ) (xs : List Entry) (x : Entry) → n < length xs → x ≡ get_or xs n x → slice_set xs n (record x { ended = true }) ≡ closed_at n xs
closed_written n xs x h g = closed_set n xs x (slice_get_read xs (length xs) n x refl h g)

pub closed_within : (n : ℕ) (xs : List Entry) (low : ℕ) → FirstOpen xs low → low ≤ length (closed_at n xs)
closed_within n xs low f = let l = closed_long n xs in let w = f.within in omega arith

pub get_closed : (n : ℕ) (xs : List Entry) (m : ℕ) (x : Entry) → slice_get (closed_at n xs) m ≡ Some x → ((m ≡ n) × (y : Entry) × (slice_get xs m ≡ Some y) × (x ≡ record y { ended = true })) ⊎ ((m ≢ n) × (slice_get xs m ≡ Some x))
get_closed n [] m x e = absurd (none-some x e)
get_closed zero (y ∷ xs) zero x e = inl (refl, y, refl, sym (same_Some (record y { ended = true }) x e))
get_closed zero (y ∷ xs) (suc m) x e = inr ((λ h. absurd cc), e)
get_closed (suc n) (y ∷ xs) zero x e = inr ((λ h. absurd cc), e)
get_closed (suc n) (y ∷ xs) (suc m) x e = further (get_closed n xs m x e)
  where
    further : ((m ≡ n) × (z : Entry) × (slice_get xs m ≡ Some z) × (x ≡ record z { ended = true })) ⊎ ((m ≢ n) × (slice_get xs m ≡ Some x)) → ((suc m ≡ suc n) × (z : Entry) × (slice_get xs m ≡ Some z) × (x ≡ record z { ended = true })) ⊎ ((suc m ≢ suc n) × (slice_get xs m ≡ Some x))
    further (inl t) = inl (ap suc t.0, t.1, t.2, t.3)
    further (inr t) = inr ((λ h. let f : m ≡ n = cc in t.0 f), t.1)

pub closed_before : (n : ℕ) (xs : List Entry) (low : ℕ) → FirstOpen xs low → EndedBefore (closed_at n xs) low
closed_before n xs low f m x h e = at (get_closed n xs m x e)
  where
    at : ((m ≡ n) × (y : Entry) × (slice_get xs m ≡ Some y) × (x ≡ record y { ended = true })) ⊎ ((m ≢ n) × (slice_get xs m ≡ Some x)) → x.ended ≡ true
    at (inl t) = ap (λ (z : Entry). z.ended) t.3
    at (inr t) = f.before m x h t.1

-- where a claim was opened stays
pub was_opened : (a b : Account) (n : ℕ) (s : Spot) → Reaches (glimpse a) (glimpse b) → WasOpened a n s → WasOpened b n s
was_opened a b n (At.Form k) r (f, e, c) = let q = r.forms k f e in (q.0, q.1, q.2.attempt.claim ∙ c)
was_opened a b n (At.Part id k) r (p, x, e, i, c) =
    let q = r.cells id p e in
    let y = q.2.attempts k x i in
    (q.0, y.0, q.1, y.1, y.2.claim ∙ c)

-- a step that opens and ends no claim
pub same_registered : (a b : Account) (claims : List Entry) → Reaches (glimpse a) (glimpse b) → ((n : ℕ) → opens n b ≡ opens n a) → IsRegistered a claims → IsRegistered b claims
same_registered a b claims r o k = record { spots = λ n x e. was_opened a b n x.spot r (k.spots n x e); often = λ n x e. o n ∙ k.often n x e }

-- a step that opens the next claim
pub opened_registered : (a b : Account) (claims : List Entry) (spot : Spot) → Reaches (glimpse a) (glimpse b) → ((n : ℕ) → opens n b ≡ at_claim (length claims) n + opens n a) → opens (length claims) a ≡ 0 → WasOpened b (length claims) spot → IsRegistered a claims → IsRegistered b (claims ++ record { spot = spot; ended = false } ∷ [])
opened_registered a b claims spot r o z here k = record { spots = λ n x e. where_ n x (get_snoc claims n last x e); often = λ n x e. often n x (get_snoc claims n last x e) }
  where
    last : Entry
    last = record { spot = spot; ended = false }

    where_ : (n : ℕ) (x : Entry) → ((n ≡ length claims) × (last ≡ x)) ⊎ (slice_get claims n ≡ Some x) → WasOpened b n x.spot
    where_ n x (inl t) = subst (λ (i : ℕ). WasOpened b i x.spot) (sym t.0) (subst (λ (y : Entry). WasOpened b (length claims) y.spot) t.1 here)
    where_ n x (inr t) = was_opened a b n x.spot r (k.spots n x t)

    often : (n : ℕ) (x : Entry) → ((n ≡ length claims) × (last ≡ x)) ⊎ (slice_get claims n ≡ Some x) → opens n b ≡ cond x.ended 0 1
    often n x (inl t) =
        let s = at_claim_same (length claims) n (sym t.0) in
        let y : opens n a ≡ 0 = ap (λ (i : ℕ). opens i a) t.0 ∙ z in
        let u = o n in
        let v : opens n b ≡ 1 = omega arith in v ∙ ap (λ (w : Entry). cond w.ended 0 1) t.1
    often n x (inr t) =
        let w = slice_get_within claims n x t in
        let s = at_claim_other (length claims) n (λ e. (let e2 : length claims ≡ n = e in absurd (omega arith))) in
        let u = o n in
        let v : opens n b ≡ opens n a = omega arith in v ∙ k.often n x t

-- a step that ends a claim
pub closed_registered : (a b : Account) (claims : List Entry) (claim : ℕ) → Reaches (glimpse a) (glimpse b) → IsSound a → ((n : ℕ) → opens n b + at_claim claim n ≡ opens n a) → IsRegistered a claims → IsRegistered b (closed_at claim claims)
closed_registered a b claims claim r s o k = record { spots = λ n x e. where_ n x (get_closed claim claims n x e); often = λ n x e. often n x (get_closed claim claims n x e) }
  where
    where_ : (n : ℕ) (x : Entry) → ((n ≡ claim) × (y : Entry) × (slice_get claims n ≡ Some y) × (x ≡ record y { ended = true })) ⊎ ((n ≢ claim) × (slice_get claims n ≡ Some x)) → WasOpened b n x.spot
    where_ n x (inl (e, y, i, g)) = was_opened a b n x.spot r (subst (λ (z : Spot). WasOpened a n z) (sym (ap (λ (z : Entry). z.spot) g)) (k.spots n y i))
    where_ n x (inr t) = was_opened a b n x.spot r (k.spots n x t.1)

    often : (n : ℕ) (x : Entry) → ((n ≡ claim) × (y : Entry) × (slice_get claims n ≡ Some y) × (x ≡ record y { ended = true })) ⊎ ((n ≢ claim) × (slice_get claims n ≡ Some x)) → opens n b ≡ cond x.ended 0 1
    often n x (inl (e, y, i, g)) =
        let u = o n in
        let w = s.once n in
        let t = at_claim_same claim n (sym e) in
        let v : opens n b ≡ 0 = omega arith in v ∙ ap (λ (z : Entry). cond z.ended 0 1) (sym g)
    often n x (inr t) =
        let u = o n in
        let w = at_claim_other claim n (λ e. t.0 (sym e)) in
        let v : opens n b ≡ opens n a = omega arith in v ∙ k.often n x t.1
