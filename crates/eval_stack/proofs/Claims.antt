-- The claims of a stack, and its links, where a work is pushed or popped.
use Rattle.std.proofs.Common.{◌≡◌, ◌≢◌, ◌⊎◌, inl, inr, ℕ, ◌+◌, ◌-◌, ◌<◌, ◌≤◌, List, [], ◌∷◌, ◌++◌, Option, Some, None, take, refl, ap, sym, subst, ◌∙◌, arith}
use Rattle.std.specs.Prelude.{MatchOption}
use Rattle.cell_book.specs.Account.{Duty}
use Rattle.cell_book.specs.Glimpses.{Glimpse, Holds, IsOpen, at_claim, after_end}
use Rattle.cell_book.proofs.Opening.{at_claim_same, at_claim_other}
use Rattle.cell_book.proofs.Onwards.{open_onward}
use Rattle.cell_book.proofs.Lists.{same_or}
use Rattle.eval_stack.specs.declared.state.Waiting.{Waiting}
use Rattle.eval_stack.specs.declared.state.Turned.{Turned}
use Rattle.eval_stack.specs.Turned.{StaysLowest, Ends}
use Rattle.eval_stack.specs.Stack.{claims, all_claims, lowest, AreOwn, IsLinked, AreLinked, AreOpen}

module _ {S : Type 0} {b : _} where
  pub claims_push : (xs : List (Waiting S b)) (x : Waiting S b) (c : ℕ) → claims (xs ++ x ∷ []) c ≡ at_claim x.work.claim c + claims xs c
  claims_push [] x c = refl
  claims_push (z ∷ xs) x c = let e = claims_push xs x c in omega arith

  pub lowest_push : (xs : List (Waiting S b)) (x : Waiting S b) (v : Duty) → lowest (xs ++ x ∷ []) v ≡ lowest xs x.work
  lowest_push [] x v = refl
  lowest_push (z ∷ xs) x v = refl

  pub linked_push : (g : Glimpse) (xs : List (Waiting S b)) (x : Waiting S b) (v : Duty) → AreLinked g xs x.work → IsLinked g x v → AreLinked g (xs ++ x ∷ []) v
  linked_push g [] x v l k = (k, tt)
  linked_push g (z ∷ xs) x v l k = (subst (λ (w : Duty). IsLinked g z w) (sym (lowest_push xs x v)) l.0, linked_push g xs x v l.1 k)

  pub linked_pop : (g : Glimpse) (xs : List (Waiting S b)) (x : Waiting S b) (v : Duty) → AreLinked g (xs ++ x ∷ []) v → AreLinked g xs x.work × IsLinked g x v
  linked_pop g [] x v l = (tt, l.0)
  linked_pop g (z ∷ xs) x v l = let r = linked_pop g xs x v l.1 in ((subst (λ (w : Duty). IsLinked g z w) (lowest_push xs x v) l.0, r.0), r.1)

  link_on : (g h : Glimpse) (x : Waiting S b) (w : Duty) → Holds w.claim g h → IsLinked g x w → IsLinked h x w
  link_on g h x w k o = record { kind = o.kind; term = o.term; place = o.place; forced = k.forced x.asker.cell (Some x.work.claim) o.forced }

  lowest_held : (xs : List (Waiting S b)) (w : Duty) → 0 < all_claims xs w (lowest xs w).claim
  lowest_held [] w = let e = at_claim_same w.claim w.claim refl in omega arith
  lowest_held (x ∷ xs) w = let e = at_claim_same x.work.claim x.work.claim refl in omega arith

  pub linked_on : (g h : Glimpse) (xs : List (Waiting S b)) (w : Duty) → ((c : ℕ) → 0 < all_claims xs w c → Holds c g h) → AreLinked g xs w → AreLinked h xs w
  linked_on g h [] w k l = tt
  linked_on g h (x ∷ xs) w k l = (link_on g h x (lowest xs w) (k (lowest xs w).claim (let m = lowest_held xs w in omega arith)) l.0, linked_on g h xs w (λ c m. k c (omega arith)) l.1)

  pub open_on : (g h : Glimpse) (xs : List (Waiting S b)) → ((c : ℕ) → 0 < claims xs c → Holds c g h) → AreOpen g xs → AreOpen h xs
  open_on g h [] k o = tt
  open_on g h (x ∷ xs) k o = (open_onward x.work g h (k x.work.claim (let e = at_claim_same x.work.claim x.work.claim refl in omega arith)) o.0, open_on g h xs (λ c m. k c (omega arith)) o.1)

  pub open_pop : (g : Glimpse) (xs : List (Waiting S b)) (x : Waiting S b) → AreOpen g (xs ++ x ∷ []) → AreOpen g xs × IsOpen g x.work
  open_pop g [] x o = (tt, o.0)
  open_pop g (z ∷ xs) x o = let r = open_pop g xs x o.1 in ((o.0, r.0), r.1)

  pub lowest_empty : (xs : List (Waiting S b)) (w : Duty) → xs ≡ [] → lowest xs w ≡ w
  lowest_empty xs w e = ap (λ l. lowest l w) e

  pub claims_empty : (xs : List (Waiting S b)) (c : ℕ) → xs ≡ [] → claims xs c ≡ 0
  claims_empty xs c e = ap (λ l. claims l c) e

  -- the lowest work under another name
  pub lowest_stays : (u v : Duty) (r : Turned S b) → u ≡ v → StaysLowest u r → StaysLowest v r
  lowest_stays u v r e h = subst (λ (w : Duty). StaysLowest w r) e h

  pub opened_held : (mine mine2 : ℕ → ℕ) (xs : List (Waiting S b)) (x : Waiting S b) (v : Duty) (c : ℕ) → mine2 c ≡ at_claim v.claim c + mine c → (n : ℕ) → n ≡ all_claims (xs ++ x ∷ []) v c → mine2 c + all_claims xs x.work c ≡ mine c + n
  opened_held mine mine2 xs x v c h n e = let p = claims_push xs x c in omega arith

  -- a claim of a work that waits isn't the top one's
  pub apart_below : (mine : ℕ → ℕ) (xs : List (Waiting S b)) (w : Duty) → AreOwn mine xs w → (c : ℕ) → 0 < claims xs c → c ≢ w.claim
  apart_below mine xs w o c m = λ e. (let t = at_claim_same w.claim c (sym e) in let l = o.once c in absurd (omega arith))

  pub held_below : (mine : ℕ → ℕ) (xs : List (Waiting S b)) (w : Duty) → AreOwn mine xs w → (c : ℕ) → 0 < claims xs c → 0 < mine c
  held_below mine xs w o c m = let l = o.own c in omega arith

  pub held_all : (mine : ℕ → ℕ) (xs : List (Waiting S b)) (w : Duty) → AreOwn mine xs w → (c : ℕ) → 0 < all_claims xs w c → 0 < mine c
  held_all mine xs w o c m = let l = o.own c in omega arith

  pub held_top : (mine : ℕ → ℕ) (xs : List (Waiting S b)) (w : Duty) → AreOwn mine xs w → 0 < mine w.claim
  held_top mine xs w o = let l = o.own w.claim in let t = at_claim_same w.claim w.claim refl in omega arith

  pub own_same : (mine mine2 : ℕ → ℕ) (xs : List (Waiting S b)) (w : Duty) → AreOwn mine xs w → ((c : ℕ) → mine2 c ≡ mine c) → AreOwn mine2 xs w
  own_same mine mine2 xs w o same = record { own = λ c. (let l = o.own c in let e = same c in omega arith); once = o.once }

  pub own_push : (mine mine2 : ℕ → ℕ) (xs : List (Waiting S b)) (x : Waiting S b) (v : Duty) → AreOwn mine xs x.work → ((c : ℕ) → mine2 c ≡ at_claim v.claim c + mine c) → mine v.claim ≡ 0 → AreOwn mine2 (xs ++ x ∷ []) v
  own_push mine mine2 xs x v o more fresh = record { own = λ c. (let p = claims_push xs x c in let l = o.own c in let e = more c in omega arith); once = λ c. once c (same_or c v.claim) }
    where
      once : (c : ℕ) → (c ≡ v.claim) ⊎ (c ≢ v.claim) → all_claims (xs ++ x ∷ []) v c ≤ 1
      once c (inl e) = let p = claims_push xs x c in let l = o.own c in let z : mine c ≡ 0 = ap mine e ∙ fresh in let t = at_claim_same v.claim c (sym e) in omega arith
      once c (inr n) = let p = claims_push xs x c in let l = o.once c in let t = at_claim_other v.claim c (λ e. n (sym e)) in omega arith

  -- the top work ends
  module _ (mine : ℕ → ℕ) (ys : List (Waiting S b)) (x : Waiting S b) (w : Duty) (o : AreOwn mine (ys ++ x ∷ []) w) where
    pub held_popped : (c : ℕ) → 0 < all_claims ys x.work c → 0 < mine c
    held_popped c m = let l = o.own c in let p = claims_push ys x c in omega arith

    pub apart_popped : (c : ℕ) → 0 < all_claims ys x.work c → c ≢ w.claim
    apart_popped c m = λ e. (let t = at_claim_same w.claim c (sym e) in let l = o.once c in let p = claims_push ys x c in absurd (omega arith))

    pub held_last : 0 < mine x.work.claim
    held_last = held_popped x.work.claim (let t = at_claim_same x.work.claim x.work.claim refl in omega arith)

    pub apart_last : x.work.claim ≢ w.claim
    apart_last = apart_popped x.work.claim (let t = at_claim_same x.work.claim x.work.claim refl in omega arith)

    pub other_asker : (c : ℕ) → 0 < claims ys c → Some x.work.claim ≢ Some c
    other_asker c m = λ e. (let q : x.work.claim ≡ c = cc in let t = at_claim_same x.work.claim c q in let l = o.once c in let p = claims_push ys x c in absurd (omega arith))

    pub own_popped : (mine2 : ℕ → ℕ) → ((c : ℕ) → mine2 c ≡ after_end mine w c) → AreOwn mine2 ys x.work
    own_popped mine2 less = record {
      own = λ c. (let l = o.own c in let p = claims_push ys x c in let e = less c in omega arith);
      once = λ c. (let l = o.once c in let p = claims_push ys x c in omega arith);
    }

  -- the counts of open claims after the top work ended
  pub last_held : (mine mine2 : ℕ → ℕ) (xs : List (Waiting S b)) (w : Duty) (c : ℕ) → AreOwn mine xs w → mine2 c ≡ after_end mine w c → mine2 c + at_claim w.claim c ≡ mine c + 0
  last_held mine mine2 xs w c o e = let l = o.own c in omega arith

  pub none_held : (mine : ℕ → ℕ) (xs : List (Waiting S b)) (w : Duty) (c : ℕ) → xs ≡ [] → mine c + at_claim w.claim c ≡ mine c + all_claims xs w c
  none_held mine xs w c e = let z = claims_empty xs c e in omega arith

  pub told_held : (mine mine2 : ℕ → ℕ) (ys : List (Waiting S b)) (x : Waiting S b) (w : Duty) (c : ℕ) → AreOwn mine (ys ++ x ∷ []) w → mine2 c ≡ after_end mine w c → mine2 c + (at_claim w.claim c + all_claims ys x.work c) ≡ mine c + all_claims ys x.work c
  told_held mine mine2 ys x w c o e = let l = o.own c in let p = claims_push ys x c in omega arith

  pub popped_held : (xs ys : List (Waiting S b)) (x : Waiting S b) (w : Duty) (c : ℕ) → xs ≡ ys ++ x ∷ [] → (n m k : ℕ) → n + (at_claim w.claim c + all_claims ys x.work c) ≡ m + k → n + all_claims xs w c ≡ m + k
  popped_held xs ys x w c e n m k h = let z = ap (λ l. claims l c) e in let p = claims_push ys x c in omega arith

  pub emptied_held : (xs : List (Waiting S b)) (w : Duty) (c : ℕ) → xs ≡ [] → (n m k : ℕ) → n + at_claim w.claim c ≡ m + k → n + all_claims xs w c ≡ m + k
  emptied_held xs w c e n m k h = let z = claims_empty xs c e in omega arith

  pub lowest_popped : (xs ys : List (Waiting S b)) (x : Waiting S b) (w : Duty) (r : Turned S b) → xs ≡ ys ++ x ∷ [] → StaysLowest (lowest ys x.work) r → StaysLowest (lowest xs w) r
  lowest_popped xs ys x w r e h = lowest_stays (lowest ys x.work) (lowest xs w) r (sym (ap (λ l. lowest l w) e ∙ lowest_push ys x w)) h

  pub ends_last : (g : Glimpse) (xs : List (Waiting S b)) (w : Duty) (r : Turned S b) → xs ≡ [] → Ends g w r → Ends g (lowest xs w) r
  ends_last g xs w r e h = subst (λ (v : Duty). Ends g v r) (sym (lowest_empty xs w e)) h

  -- works are given up
  pub lost_own : (mine mine2 : ℕ → ℕ) (xs : List (Waiting S b)) (w : Duty) (c : ℕ) → AreOwn mine xs w → mine2 c ≡ after_end mine w c → claims xs c ≤ mine2 c
  lost_own mine mine2 xs w c o e = let l = o.own c in omega arith

  pub lost_once : (mine : ℕ → ℕ) (xs : List (Waiting S b)) (w : Duty) (c : ℕ) → AreOwn mine xs w → claims xs c ≤ 1
  lost_once mine xs w c o = let l = o.once c in omega arith

  pub lost_held : (mine mine2 mine3 : ℕ → ℕ) (xs : List (Waiting S b)) (w : Duty) (c : ℕ) → AreOwn mine xs w → mine2 c ≡ after_end mine w c → mine3 c + claims xs c ≡ mine2 c → mine3 c + all_claims xs w c ≡ mine c
  lost_held mine mine2 mine3 xs w c o e f = let l = o.own c in omega arith

  -- the last of those that wait is given up
  module _ (mine : ℕ → ℕ) (ys : List (Waiting S b)) (x : Waiting S b) (own : (c : ℕ) → claims (ys ++ x ∷ []) c ≤ mine c) (once : (c : ℕ) → claims (ys ++ x ∷ []) c ≤ 1) where
    pub last_own : 0 < mine x.work.claim
    last_own = let l = own x.work.claim in let p = claims_push ys x x.work.claim in let t = at_claim_same x.work.claim x.work.claim refl in omega arith

    pub rest_held : (c : ℕ) → 0 < claims ys c → 0 < mine c
    rest_held c m = let l = own c in let p = claims_push ys x c in omega arith

    pub rest_apart : (c : ℕ) → 0 < claims ys c → c ≢ x.work.claim
    rest_apart c m = λ e. (let t = at_claim_same x.work.claim c (sym e) in let l = once c in let p = claims_push ys x c in absurd (omega arith))

    pub rest_own : (mine2 : ℕ → ℕ) (c : ℕ) → mine2 c ≡ after_end mine x.work c → claims ys c ≤ mine2 c
    rest_own mine2 c e = let l = own c in let p = claims_push ys x c in omega arith

    pub rest_once : (c : ℕ) → claims ys c ≤ 1
    rest_once c = let l = once c in let p = claims_push ys x c in omega arith

    pub rest_lost : (mine0 mine2 : ℕ → ℕ) (zs : List (Waiting S b)) (c : ℕ) → mine2 c ≡ after_end mine x.work c → mine c + claims zs c ≡ mine0 c + claims (ys ++ x ∷ []) c → mine2 c + claims zs c ≡ mine0 c + claims ys c
    rest_lost mine0 mine2 zs c e f = let l = own c in let p = claims_push ys x c in omega arith

-- the counts over two turns
pub held_on : (t u s a b d : ℕ) → u + a ≡ s + b → t + b ≡ u + d → t + a ≡ s + d
held_on t u s a b d e f = omega arith

pub concluded_held : (s u t a b : ℕ) → u + a ≡ s + b → t + b ≡ u → t + a ≡ s
concluded_held s u t a b e f = omega arith

-- a pop that gave nothing
pub nothing_more : {X : Type 0} (xs : List X) → xs ++ [] ≡ xs
nothing_more [] = refl
nothing_more (x ∷ xs) = ap (λ l. x ∷ l) (nothing_more xs)

pub popped_none : {X : Type 0} (A B : Type 0) (F : X → Type 0) (o : Option X) → o ≡ None → MatchOption o (A × B) F → A × B
popped_none A B F None e h = h
popped_none A B F (Some x) e h = absurd cc

pub none_left : {X : Type 0} (n : ℕ) (xs ys : List X) → n ≡ 0 → ys ≡ take (n - 1) xs → ys ≡ []
none_left n xs ys e q = q ∙ ap (λ (m : ℕ). take (m - 1) xs) e
