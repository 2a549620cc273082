-- What each step tells of a whole book: how often claims are open, that it stays sound, and that the work given is open and new.
use Rattle.std.proofs.Common.{◌≡◌, ℕ, zero, suc, ◌+◌, ◌-◌, Bool, true, false, cond, List, length, Some, None, Option, Ok, Err, refl, ap, sym, subst, ◌∙◌, arith, inl, inr}
use Rattle.std.specs.Prelude.{slice_get, IfOk, IfErr, IfSome}
use Rattle.std.proofs.lemmas.Option.{none-some}
use Rattle.seq_base.specs.declared.thrown.Thrown.{Thrown}
use Rattle.seq_values.specs.declared.value.Value.{Value}
use Rattle.seq_values.specs.declared.term.Term.{Term}
use Rattle.seq_values.specs.declared.words.Kind.{Kind}
use Rattle.cell_book.specs.declared.answers.MakeRefusal.TheVariants as M
use Rattle.cell_book.specs.declared.answers.ClaimRefusal.TheVariants as C
use Rattle.cell_book.specs.declared.cell.State.{State}
use Rattle.cell_book.specs.declared.cell.State.TheVariants as S
use Rattle.cell_book.specs.declared.cell.ClaimEnd.{ClaimEnd}
use Rattle.cell_book.specs.declared.cell.ClaimEnd.TheVariants as E
use Rattle.cell_book.specs.declared.cell.Attempt.{Attempt}
use Rattle.cell_book.specs.declared.cell.Cell.{Cell}
use Rattle.cell_book.specs.declared.work.Place.{Place}
use Rattle.cell_book.specs.declared.work.Place.TheVariants as P
use Rattle.cell_book.specs.Account.{Account, Duty, new_book, cell_at, is_open, forces, opens, IsSound}
use Rattle.cell_book.specs.Steps.{begun_form, claimed, BeginAnswer, MakeAnswer, FutureAnswer, ClaimAnswer, HasOpen, FindsFuture, Begins, Makes, Claims, Opens, Ends, Finishes, Fails, GivesUp, failed_state, IsOpenIn}
use Rattle.cell_book.specs.Glimpses.{glimpse, Glimpse, Sees, SeesCell, SeesPlace, SeesSpent, SeesGaveUp, IsOpen, at_claim, after_open, after_end}
use Rattle.cell_book.proofs.Lists.{get_last, set_here}
use Rattle.cell_book.proofs.Moves.{failed_idle}
use Rattle.cell_book.proofs.Opening.{begun_opens, made_opens, claimed_opens, ended_opens, form_opens, fresh_opens, begun_sound, made_sound, claimed_sound, ended_sound, form_sound}

-- claims that are open
pub begins_opens : (a b : Account) (number : ℕ) (answer : BeginAnswer) → Begins a number answer b → (c : ℕ) → opens c b ≡ after_open (λ x. opens x a) answer c
begins_opens a b number (Ok w) h c = ap (opens c) h.3 ∙ begun_opens a number w.claim c
begins_opens a b number (Err r) h c = ap (opens c) h

pub makes_opens : (a b : Account) (by : Duty) (t : Term) (k : Kind) (answer : MakeAnswer) → Makes a by t k answer b → (c : ℕ) → opens c b ≡ opens c a
makes_opens a b by t k (Ok id) h c = ap (opens c) h.2 ∙ made_opens a by t k c
makes_opens a b by t k (Err (M.Spent back)) h c = ap (opens c) h.2
makes_opens a b by t k (Err (M.Memory back)) h c = ap (opens c) h.1

pub claims_opens : (a b : Account) (id : ℕ) (asker : Option ℕ) (answer : ClaimAnswer) → Claims a id asker answer b → (c : ℕ) → opens c b ≡ after_open (λ x. opens x a) answer c
claims_opens a b id asker (Ok w) (n, (p, at, e, f, x, y, is)) c = ap (opens c) is ∙ claimed_opens a id w.claim asker p c at e
claims_opens a b id asker (Err r) h c = ap (opens c) h.0

minus : (m n k : ℕ) → m + n ≡ k → m ≡ k - n
minus m n k e = omega arith

pub ends_opens : (a b : Account) (w : Duty) (end : ClaimEnd) (state : Kind → State) (value : Option Value) → is_open end ≡ false → ((k : Kind) (c : ℕ) → forces c (state k) ≡ false) → Ends a w end state value b → (c : ℕ) → opens c b ≡ after_end (λ x. opens x a) w c
ends_opens a b w end state value n idle h c = at w.place h
  where
    at : (x : Place) → Ends a (record { place = x; claim = w.claim; outcomes = w.outcomes }) end state value b → opens c b ≡ opens c a - at_claim w.claim c
    at (P.Form number k) (e, is) = ap (opens c) is ∙ minus _ _ _ (form_opens a k number w.claim end value c e n)
    at (P.Part id kind term) (p, asker, past, e, o, is) = ap (opens c) is ∙ minus _ _ _ (ended_opens a id w.claim asker past end (state p.kind) p c e o (idle p.kind c))

pub finishes_opens : (a b : Account) (w : Duty) (v : Value) → Finishes a w v b → (c : ℕ) → opens c b ≡ after_end (λ x. opens x a) w c
finishes_opens a b w v h c = ends_opens a b w E.Value (λ _. S.Done v) (Some v) refl (λ k d. refl) h c

pub fails_opens : (a b : Account) (w : Duty) (why : Thrown) → Fails a w why b → (c : ℕ) → opens c b ≡ after_end (λ x. opens x a) w c
fails_opens a b w why h c = ends_opens a b w (E.Error why) (failed_state why) None refl (failed_idle why) h c

pub gives_up_opens : (a b : Account) (w : Duty) → GivesUp a w b → (c : ℕ) → opens c b ≡ after_end (λ x. opens x a) w c
gives_up_opens a b w (m, h, e) c = ap (opens c) e ∙ ends_opens a m w E.GivenUp (λ _. S.Empty) None refl (λ k d. refl) h c

-- a work that was given is new, and open
pub begins_new : (a b : Account) (number : ℕ) (answer : BeginAnswer) → Begins a number answer b → IfOk answer (λ w. opens w.claim a ≡ 0)
begins_new a b number (Ok w) h = fresh_opens a w.claim h.2
begins_new a b number (Err r) h = tt

pub claims_new : (a b : Account) (id : ℕ) (asker : Option ℕ) (answer : ClaimAnswer) → Claims a id asker answer b → IfOk answer (λ w. opens w.claim a ≡ 0)
claims_new a b id asker (Ok w) (n, (p, at, e, f, x, y, is)) = fresh_opens a w.claim f
claims_new a b id asker (Err r) h = tt

pub begun_open : (a b : Account) (number : ℕ) (w : Duty) → Begins a number (Ok w) b → IsOpenIn b w
begun_open a b number w h = subst (λ (x : Place). IsOpenIn b (record { place = x; claim = w.claim; outcomes = w.outcomes })) (sym h.0) (ap (λ (z : Account). slice_get z.forms (length a.forms)) h.3 ∙ get_last a.forms (begun_form number w.claim) (length a.forms) refl)

pub claimed_open : (a b : Account) (id : ℕ) (asker : Option ℕ) (w : Duty) → Opens a id asker w b → (p : Cell) × (past : List Attempt) × (cell_at b id ≡ Some p) × HasOpen p w.claim asker past
claimed_open a b zero asker w (p, at, e, f, x, y, is) = absurd (none-some p at)
claimed_open a b (suc i) asker w (p, at, e, f, x, y, is) =
    let q : Cell = claimed p w.claim asker in
    (q, p.attempts, ap (λ (z : Account). cell_at z (suc i)) is ∙ set_here a.cells i p q at, record { state = refl; attempts = refl })

pub claims_open : (a b : Account) (id : ℕ) (asker : Option ℕ) (w : Duty) → Claims a id asker (Ok w) b → IsOpenIn b w
claims_open a b id asker w (n, o) =
    let q = claimed_open a b id asker w o in
    subst (λ (x : Place). IsOpenIn b (record { place = x; claim = w.claim; outcomes = w.outcomes })) (sym (o.4)) (q.0, asker, q.1, q.2, q.3)

pub claims_open_if : (a b : Account) (id : ℕ) (asker : Option ℕ) (answer : ClaimAnswer) → Claims a id asker answer b → IfOk answer (λ w. IsOpen (glimpse b) w)
claims_open_if a b id asker (Ok w) h = claims_open a b id asker w h
claims_open_if a b id asker (Err r) h = tt

-- what was seen at once of the place of an open work
pub open_seen : (b : Account) (h : Glimpse) (w : Duty) → IsOpenIn b w → SeesPlace w.place b h → IsOpen h w
open_seen b h w o s = at w.place o s
  where
    at : (x : Place) → IsOpenIn b (record { place = x; claim = w.claim; outcomes = w.outcomes }) → SeesPlace x b h → IsOpen h (record { place = x; claim = w.claim; outcomes = w.outcomes })
    at (P.Form number k) e g = g ∙ e
    at (P.Part id kind term) (p, asker, past, e, k) g = (p, asker, past, g ∙ e, k)

-- books stay sound
pub begins_sound : (a b : Account) (number : ℕ) (answer : BeginAnswer) → IsSound a → Begins a number answer b → IsSound b
begins_sound a b number (Ok w) s h = subst IsSound (sym h.3) (begun_sound a number w.claim h.2 s)
begins_sound a b number (Err r) s h = subst IsSound (sym h) s

pub new_sound : (limit : ℕ) → IsSound (new_book limit)
new_sound limit = record { once = λ c. omega arith; within = omega arith }

noted_sound : (a : Account) (spent gave_up : Bool) → IsSound a → IsSound (record { limit = a.limit; cells = a.cells; forms = a.forms; spent = spent; gave_up = gave_up })
noted_sound a spent gave_up s = record { once = s.once; within = s.within }

pub makes_sound : (a b : Account) (by : Duty) (t : Term) (k : Kind) (answer : MakeAnswer) → IsSound a → Makes a by t k answer b → IsSound b
makes_sound a b by t k (Ok id) s h = subst IsSound (sym h.2) (made_sound a by t k h.1 s)
makes_sound a b by t k (Err (M.Spent back)) s h = subst IsSound (sym h.2) (noted_sound a true a.gave_up s)
makes_sound a b by t k (Err (M.Memory back)) s h = subst IsSound (sym h.1) s

pub claims_sound : (a b : Account) (id : ℕ) (asker : Option ℕ) (answer : ClaimAnswer) → IsSound a → Claims a id asker answer b → IsSound b
claims_sound a b id asker (Ok w) s (n, (p, at, e, f, x, y, is)) = subst IsSound (sym is) (claimed_sound a id w.claim asker p at e f s)
claims_sound a b id asker (Err r) s h = subst IsSound (sym h.0) s

pub ends_sound : (a b : Account) (w : Duty) (end : ClaimEnd) (state : Kind → State) (value : Option Value) → is_open end ≡ false → ((k : Kind) (c : ℕ) → forces c (state k) ≡ false) → IsSound a → Ends a w end state value b → IsSound b
ends_sound a b w end state value n idle s h = at w.place h
  where
    at : (x : Place) → Ends a (record { place = x; claim = w.claim; outcomes = w.outcomes }) end state value b → IsSound b
    at (P.Form number k) (e, is) = subst IsSound (sym is) (form_sound a k number w.claim end value e n s)
    at (P.Part id kind term) (p, asker, past, e, o, is) = subst IsSound (sym is) (ended_sound a id w.claim asker past end (state p.kind) p e o (idle p.kind) s)

pub finishes_sound : (a b : Account) (w : Duty) (v : Value) → IsSound a → Finishes a w v b → IsSound b
finishes_sound a b w v s h = ends_sound a b w E.Value (λ _. S.Done v) (Some v) refl (λ k d. refl) s h

pub fails_sound : (a b : Account) (w : Duty) (why : Thrown) → IsSound a → Fails a w why b → IsSound b
fails_sound a b w why s h = ends_sound a b w (E.Error why) (failed_state why) None refl (failed_idle why) s h

pub gives_up_sound : (a b : Account) (w : Duty) → IsSound a → GivesUp a w b → IsSound b
gives_up_sound a b w s (m, h, e) = subst IsSound (sym e) (noted_sound m m.spent true (ends_sound a m w E.GivenUp (λ _. S.Empty) None refl (λ k d. refl) s h))

-- the whole book was seen
pub sees_whole : (leads : Bool) (mine : ℕ → ℕ) (g : Glimpse) (b : Account) → Sees leads mine g b (glimpse b)
sees_whole leads mine g b = record { limit = refl; cells = λ id. inr (inl refl); forms = λ k. inr (inl refl); begun = λ is. refl; made = λ c m. refl; asked = λ c m id. refl; spent = inr refl; gave_up = inr refl }

-- a future that was found
pub finds_same : (a b : Account) (answer : FutureAnswer) → FindsFuture a answer b → b ≡ a
finds_same a b None h = h.0
finds_same a b (Some id) h = h.0

pub sees_future : (answer : FutureAnswer) (b : Account) → IfSome answer (λ (id : ℕ). SeesCell id b (glimpse b))
sees_future None b = tt
sees_future (Some id) b = refl

-- the notes were seen
pub sees_spent : (a b : Account) (by : Duty) (t : Term) (k : Kind) (answer : MakeAnswer) → Makes a by t k answer b → IfErr answer (λ r. SeesSpent r (glimpse b))
sees_spent a b by t k (Ok id) h = tt
sees_spent a b by t k (Err (M.Spent back)) h = ap (λ (x : Account). x.spent) h.2
sees_spent a b by t k (Err (M.Memory back)) h = tt

barred_gave_up : (spent gave_up : Bool) → cond spent false gave_up ≡ true → gave_up ≡ true
barred_gave_up true g e = absurd cc
barred_gave_up false g e = e

pub sees_gave_up : (a b : Account) (id : ℕ) (asker : Option ℕ) (answer : ClaimAnswer) → Claims a id asker answer b → IfErr answer (λ r. SeesGaveUp r (glimpse b))
sees_gave_up a b id asker (Ok w) h = tt
sees_gave_up a b id asker (Err (C.Seen l)) h = tt
sees_gave_up a b id asker (Err C.GaveUp) h = ap (λ (x : Account). x.gave_up) h.0 ∙ barred_gave_up a.spent a.gave_up h.1.1
sees_gave_up a b id asker (Err C.Memory) h = tt

pub given_up_noted : (a b : Account) (w : Duty) → GivesUp a w b → b.gave_up ≡ true
given_up_noted a b w (m, h, e) = ap (λ (x : Account). x.gave_up) e

pub sees_place : (x : Place) (b : Account) → SeesPlace x b (glimpse b)
sees_place (P.Form number k) b = refl
sees_place (P.Part id kind term) b = refl
