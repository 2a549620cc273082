-- The counts of a book and the place before which no future is empty, over each step.
use Rattle.std.proofs.Common.{◌≡◌, ◌≢◌, ℕ, zero, suc, ◌+◌, ◌<◌, ◌≤◌, Bool, true, false, cond, List, [], ◌∷◌, ◌++◌, length, get_or, Some, None, Option, refl, ap, sym, subst, ◌∙◌, arith, ◌⊎◌, inl, inr, le_refl, sum_by}
use Rattle.std.specs.Prelude.{slice_get, slice_set, count_by, min}
use Rattle.std.proofs.lemmas.Option.{none-some, same_Some, slice_get_within, slice_get_read, get_or_from_slice_get}
use Rattle.std.proofs.lemmas.List.Sums.{sum_by-set, sum_by_push, sum_by-cons}
use Rattle.seq_values.specs.declared.term.Term.{Term}
use Rattle.seq_values.specs.declared.words.Kind.{Kind}
use Rattle.seq_values.specs.declared.words.Kind.TheVariants.{Lazy, Future}
use Rattle.cell_book.specs.declared.cell.State.{State}
use Rattle.cell_book.specs.declared.cell.State.TheVariants as S
use Rattle.cell_book.specs.declared.cell.ClaimEnd.{ClaimEnd}
use Rattle.cell_book.specs.declared.cell.Attempt.{Attempt}
use Rattle.cell_book.specs.declared.cell.Cell.{Cell}
use Rattle.cell_book.specs.Account.{Account, Duty, opened, closed}
use Rattle.cell_book.specs.Steps.{new_cell, claimed, after_claim, HasOpen, IsOpenFuture, FindsFuture}
use Rattle.cell_book.specs.Counts.{is_done, is_error, errors_at}
use Rattle.cell_book.specs.Kept.{tries_at, is_future, is_empty, is_open_future, lowered_to, IsCounted, IsPastFutures}
use Rattle.cell_book.proofs.Lists.{get_snoc, get_set, get_within, same_or, below_or, length_push, length_set, count_cons, count_push, count_set, is_one, is_none}

pub sum_set : {X : Type 0} (f : X → ℕ) (xs : List X) (i : ℕ) (p q : X) → slice_get xs i ≡ Some p → sum_by f (slice_set xs i q) + f p ≡ sum_by f xs + f q
sum_set {X} f xs i p q at =
    subst (λ (x : X). sum_by f (slice_set xs i q) + f x ≡ sum_by f xs + f q) (get_or_from_slice_get xs i p p at) (sum_by-set f xs i q p (slice_get_within xs i p at))

pub one_most : (b : Bool) → cond b 1 0 ≤ 1
one_most true = omega arith
one_most false = omega arith

pub count_most : {X : Type 0} (f : X → Bool) (xs : List X) → count_by f xs ≤ length xs
count_most f [] = le_refl 0
count_most f (x ∷ xs) =
    let c = count_cons f x xs in
    let k = count_most f xs in
    let o = one_most (f x) in omega arith

pub count_less : {X : Type 0} (f : X → Bool) (xs : List X) (i : ℕ) (x : X) → slice_get xs i ≡ Some x → f x ≡ false → count_by f xs < length xs
count_less f [] i x e n = absurd (none-some x e)
count_less f (y ∷ xs) zero x e n =
    let c = count_cons f y xs in
    let k = count_most f xs in
    let o = is_none (f y) (ap f (same_Some y x e) ∙ n) in omega arith
count_less f (y ∷ xs) (suc i) x e n =
    let c = count_cons f y xs in
    let k = count_less f xs i x e n in
    let o = one_most (f y) in omega arith

pub sum_most : {X : Type 0} (f g : X → ℕ) → ((x : X) → f x ≤ g x) → (xs : List X) → sum_by f xs ≤ sum_by g xs
sum_most f g h [] = le_refl 0
sum_most f g h (x ∷ xs) =
    let a = sum_by-cons f x xs in
    let b = sum_by-cons g x xs in
    let k = sum_most f g h xs in
    let o = h x in omega arith

-- no more evaluations threw than claims were opened
pub failed_most : (cells : List Cell) (claims realised failed : ℕ) → IsCounted cells claims realised failed → failed ≤ claims
failed_most cells claims realised failed k =
    let f = k.failed_are in
    let t = k.tries in
    let m = sum_most errors_at tries_at (λ p. count_most (λ (x : Attempt). is_error x.end) p.attempts) cells in omega arith

-- a part that isn't done leaves room for one more
pub room_for : (cells : List Cell) (claims realised failed i : ℕ) (p : Cell) (limit : ℕ) → IsCounted cells claims realised failed → length cells ≤ limit → slice_get cells i ≡ Some p → is_done p.state ≡ false → realised < limit
room_for cells claims realised failed i p limit k l at n =
    let r = k.realised_are in
    let c = count_less (λ (q : Cell). is_done q.state) cells i p at n in omega arith

pub none_counted : IsCounted [] 0 0 0
none_counted = record { realised_are = refl; failed_are = refl; tries = le_refl 0 }

pub more_counted : (cells : List Cell) (claims realised failed : ℕ) → IsCounted cells claims realised failed → IsCounted cells (suc claims) realised failed
more_counted cells claims realised failed k = record { realised_are = k.realised_are; failed_are = k.failed_are; tries = (let t = k.tries in omega arith) }

pub made_counted : (a : Account) (by : Duty) (t : Term) (kind : Kind) (claims realised failed : ℕ) → IsCounted a.cells claims realised failed → IsCounted (a.cells ++ new_cell a by t kind ∷ []) claims realised failed
made_counted a by t kind claims realised failed k =
    let q = new_cell a by t kind in
    let c = count_push (λ (p : Cell). is_done p.state) a.cells q in
    let e = sum_by_push errors_at a.cells q in
    let l = sum_by_push tries_at a.cells q in
    let r = k.realised_are in
    let f = k.failed_are in
    let s = k.tries in record { realised_are = omega arith; failed_are = omega arith; tries = omega arith }

-- a cell with other attempts and another state
pub written_counted : (cells : List Cell) (i claims claims2 realised realised2 failed failed2 : ℕ) (p q : Cell) → slice_get cells i ≡ Some p → IsCounted cells claims realised failed → realised2 + cond (is_done p.state) 1 0 ≡ realised + cond (is_done q.state) 1 0 → failed2 + errors_at p ≡ failed + errors_at q → claims2 + tries_at p ≡ claims + tries_at q →
    IsCounted (slice_set cells i q) claims2 realised2 failed2
written_counted cells i claims claims2 realised realised2 failed failed2 p q at k u v w =
    let c = count_set (λ (x : Cell). is_done x.state) cells i p q at in
    let e = sum_set errors_at cells i p q at in
    let l = sum_set tries_at cells i p q at in
    let r = k.realised_are in
    let f = k.failed_are in
    let s = k.tries in record { realised_are = omega arith; failed_are = omega arith; tries = omega arith }

pub claimed_counted : (cells : List Cell) (i claim claims realised failed : ℕ) (asker : Option ℕ) (p : Cell) → slice_get cells i ≡ Some p → p.state ≡ S.Empty → IsCounted cells claims realised failed → IsCounted (slice_set cells i (claimed p claim asker)) (suc claims) realised failed
claimed_counted cells i claim claims realised failed asker p at s k =
    let q = claimed p claim asker in
    let d : ◌≡◌ {A = ℕ} (cond (is_done p.state) 1 0) 0 = ap (λ (x : State). cond (is_done x) 1 0) s in
    let e = count_push (λ (x : Attempt). is_error x.end) p.attempts (opened claim asker) in
    let l = length_push p.attempts (opened claim asker) in written_counted cells i claims (suc claims) realised realised failed failed p q at k (omega arith) (omega arith) (omega arith)

-- a claim on the cell ends
pub ended_counted : (cells : List Cell) (i claim claims realised realised2 failed failed2 : ℕ) (asker : Option ℕ) (past : List Attempt) (end : ClaimEnd) (state : State) (p : Cell) → slice_get cells i ≡ Some p → HasOpen p claim asker past → IsCounted cells claims realised failed → realised2 ≡ realised + cond (is_done state) 1 0 → failed2 ≡ failed + cond (is_error end) 1 0 →
    IsCounted (slice_set cells i (after_claim p claim asker past end state)) claims realised2 failed2
ended_counted cells i claim claims realised realised2 failed failed2 asker past end state p at h k u v =
    let q = after_claim p claim asker past end state in
    let d : ◌≡◌ {A = ℕ} (cond (is_done p.state) 1 0) 0 = ap (λ (x : State). cond (is_done x) 1 0) h.state in
    let e1 : errors_at p ≡ count_by (λ (x : Attempt). is_error x.end) (past ++ opened claim asker ∷ []) = ap (count_by (λ (x : Attempt). is_error x.end)) h.attempts in
    let e2 = count_push (λ (x : Attempt). is_error x.end) past (opened claim asker) in
    let e3 = count_push (λ (x : Attempt). is_error x.end) past (closed claim asker end) in
    let l1 : tries_at p ≡ length (past ++ opened claim asker ∷ []) = ap length h.attempts in
    let l2 = length_push past (opened claim asker) in
    let l3 = length_push past (closed claim asker end) in written_counted cells i claims claims realised realised2 failed failed2 p q at k (omega arith) (omega arith) (omega arith)

-- futures
pub none_past : IsPastFutures [] 0
none_past = record { within = le_refl 0; before = λ i p h e. absurd (none-some p e) }

pub made_past : (cells : List Cell) (q : Cell) (first : ℕ) → IsPastFutures cells first → IsPastFutures (cells ++ q ∷ []) first
made_past cells q first k = record { within = (let l = length_push cells q in let w = k.within in omega arith); before = λ i p h e. at i p h (get_snoc cells i q p e) }
  where
    at : (i : ℕ) (p : Cell) → i < first → ((i ≡ length cells) × (q ≡ p)) ⊎ (slice_get cells i ≡ Some p) → is_open_future p ≡ false
    at i p h (inl t) = let e = t.0 in let w = k.within in absurd (omega arith)
    at i p h (inr t) = k.before i p h t

pub past_next : (cells : List Cell) (n : ℕ) (q : Cell) → IsPastFutures cells n → n < length cells → q ≡ get_or cells n q → is_open_future q ≡ false → IsPastFutures cells (n + 1)
past_next cells n q k h g t = record { within = omega arith; before = λ m p l e. at m p l e (same_or m n) }
  where
    at : (m : ℕ) (p : Cell) → m < n + 1 → slice_get cells m ≡ Some p → (m ≡ n) ⊎ (m ≢ n) → is_open_future p ≡ false
    at m p l e (inl s) = ap is_open_future (same_Some p q (sym e ∙ (ap (slice_get cells) s ∙ slice_get_read cells (length cells) n q refl h g))) ∙ t
    at m p l e (inr d) = k.before m p (below d l) e
      where
        below : m ≢ n → m < n + 1 → m < n
        below d l = omega arith

pub future_found : (cells : List Cell) (n : ℕ) (q : Cell) → n < length cells → q ≡ get_or cells n q → is_open_future q ≡ true → (p : Cell) → slice_get cells n ≡ Some p → is_open_future p ≡ true
future_found cells n q h g t p e = ap is_open_future (same_Some p q (sym e ∙ slice_get_read cells (length cells) n q refl h g)) ∙ t

pub future_past : (cells : List Cell) (n : ℕ) → length cells ≤ n → (p : Cell) → slice_get cells n ≡ Some p → is_open_future p ≡ true
future_past cells n h p e = let w = slice_get_within cells n p e in absurd (omega arith)

-- what is found
future_kind : (p : Cell) → is_open_future p ≡ true → (p.kind ≡ Future) × (p.state ≡ S.Empty)
future_kind p e = at p.kind p.state e
  where
    at : (k : Kind) (s : State) → cond (is_future k) (is_empty s) false ≡ true → (k ≡ Future) × (s ≡ S.Empty)
    at Lazy s g = absurd cc
    at Future S.Empty g = (refl, refl)
    at Future (S.Forcing c) g = absurd cc
    at Future (S.Done v) g = absurd cc
    at Future (S.Failed w) g = absurd cc

none_before : (a : Account) (first : ℕ) → IsPastFutures a.cells first → (j : ℕ) → j ≤ first → ¬ IsOpenFuture a j
none_before a first k zero l (p, e, f, s) = absurd (none-some p e)
none_before a first k (suc i) l (p, e, f, s) = at (sym (ap (λ (x : Kind). cond (is_future x) (is_empty p.state) false) f ∙ ap is_empty s) ∙ k.before i p (omega arith) e)
  where
    at : true ≡ false → ⊥
    at t = cc

pub finds_some : (a : Account) (first : ℕ) → IsPastFutures a.cells first → ((p : Cell) → slice_get a.cells first ≡ Some p → is_open_future p ≡ true) → first < length a.cells → (id : ℕ) → id ≡ first + 1 → FindsFuture a (Some id) a
finds_some a first k found h id e =
    let p = get_within a.cells first h in
    let q = future_kind p.0 (found p.0 p.1) in
    let s : id ≡ suc first = omega arith in
    (refl, subst (IsOpenFuture a) (sym s) (p.0, p.1, q.0, q.1), λ j l. none_before a first k j (omega arith))

pub finds_none : (a : Account) (first : ℕ) → IsPastFutures a.cells first → length a.cells ≤ first → FindsFuture a None a
finds_none a first k h = (refl, λ id f. at id f (below_or id (suc first)))
  where
    at : (id : ℕ) → IsOpenFuture a id → (id < suc first) ⊎ (suc first ≤ id) → ⊥
    at id f (inl l) = none_before a first k id (omega arith) f
    at zero f (inr l) = absurd (omega arith)
    at (suc i) (p, e, f, s) (inr l) = let w = slice_get_within a.cells i p e in absurd (omega arith)

pub finds : (a : Account) (first : ℕ) (answer : Option ℕ) → IsPastFutures a.cells first → ((p : Cell) → slice_get a.cells first ≡ Some p → is_open_future p ≡ true) → (first < length a.cells → answer ≡ Some (first + 1)) → (length a.cells ≤ first → answer ≡ None) → FindsFuture a answer a
finds a first answer k found some none = by (below_or first (length a.cells))
  where
    by : (first < length a.cells) ⊎ (length a.cells ≤ first) → FindsFuture a answer a
    by (inl l) = subst (λ (o : Option ℕ). FindsFuture a o a) (sym (some l)) (finds_some a first k found l (first + 1) refl)
    by (inr l) = subst (λ (o : Option ℕ). FindsFuture a o a) (sym (none l)) (finds_none a first k l)

-- a cell is written, which is no empty future, or isn't before the place
pub written_past : (cells : List Cell) (i first first2 : ℕ) (q : Cell) → IsPastFutures cells first → first2 ≤ first → (i < first2 → is_open_future q ≡ false) → IsPastFutures (slice_set cells i q) first2
written_past cells i first first2 q k l n = record { within = (let s = length_set cells i q in let w = k.within in omega arith); before = λ j p h e. at j p h (get_set cells i j q p e) }
  where
    at : (j : ℕ) (p : Cell) → j < first2 → ((j ≡ i) × (q ≡ p)) ⊎ ((j ≢ i) × (slice_get cells j ≡ Some p)) → is_open_future p ≡ false
    at j p h (inl t) = let e = t.0 in ap is_open_future (sym t.1) ∙ n (omega arith)
    at j p h (inr t) = k.before j p (omega arith) t.1

both_false : (b : Bool) → cond b false false ≡ false
both_false true = refl
both_false false = refl

pub claimed_past : (cells : List Cell) (i claim first : ℕ) (asker : Option ℕ) (p : Cell) → IsPastFutures cells first → IsPastFutures (slice_set cells i (claimed p claim asker)) first
claimed_past cells i claim first asker p k = written_past cells i first first (claimed p claim asker) k (le_refl first) (λ h. both_false (is_future p.kind))

min_at : (m n : ℕ) → min m n ≤ m
min_at m n = omega arith

min_to : (m n : ℕ) → min m n ≤ n
min_to m n = omega arith

pub lowered_past : (cells : List Cell) (i first : ℕ) (kind : Kind) (state : State) (q : Cell) → q.kind ≡ kind → q.state ≡ state → IsPastFutures cells first → IsPastFutures (slice_set cells i q) (lowered_to first i kind state)
lowered_past cells i first kind state q e s k = at (cond (is_future kind) (is_empty state) false) (ap (λ (x : Kind). cond (is_future x) (is_empty q.state) false) e ∙ ap (λ (x : State). cond (is_future kind) (is_empty x) false) s)
  where
    at : (b : Bool) → is_open_future q ≡ b → IsPastFutures (slice_set cells i q) (cond b (min first i) first)
    at true o = written_past cells i first (min first i) q k (min_at first i) (λ h. (let m = min_to first i in absurd (omega arith)))
    at false o = written_past cells i first first q k (le_refl first) (λ h. o)
