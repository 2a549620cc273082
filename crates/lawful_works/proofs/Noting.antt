-- What each step leaves of a book that nobody shares: what grows, and what is noted.
use Rattle.std.proofs.Common.{◌≡◌, ℕ, zero, suc, Bool, true, false, cond, List, [], ◌∷◌, ◌++◌, Option, Some, None, slice_get, slice_set, Ok, Err, refl, ap, sym, subst, ◌∙◌}
use Rattle.std.proofs.lemmas.Option.{none-some, same_Some}
use Rattle.seq_base.specs.declared.thrown.Thrown.{Thrown}
use Rattle.seq_values.specs.declared.words.Kind.{Kind}
use Rattle.seq_values.specs.declared.term.Term.{Term}
use Rattle.seq_values.specs.declared.value.Value.{Value}
use Rattle.cell_book.specs.declared.answers.MakeRefusal.TheVariants as M
use Rattle.cell_book.specs.declared.answers.ClaimRefusal.TheVariants as C
use Rattle.cell_book.specs.declared.cell.State.{State}
use Rattle.cell_book.specs.declared.cell.State.TheVariants as S
use Rattle.cell_book.specs.declared.cell.ClaimEnd.{ClaimEnd}
use Rattle.cell_book.specs.declared.cell.ClaimEnd.TheVariants as E
use Rattle.cell_book.specs.declared.cell.Attempt.{Attempt}
use Rattle.cell_book.specs.declared.cell.Form.{Form}
use Rattle.cell_book.specs.declared.work.Place.{Place}
use Rattle.cell_book.specs.declared.work.Place.TheVariants as P
use Rattle.cell_book.specs.Account.{Account, Duty, cell_at, closed, begun, begun_in}
use Rattle.cell_book.specs.Steps.{begun_form, after_claim, failed_state, Begins, BeginAnswer, Makes, MakeAnswer, Looks, LookAnswer, Claims, ClaimAnswer, Ends, Finishes, Fails, GivesUp}
use Rattle.cell_book.specs.Glimpses.{Glimpse, glimpse, Reaches, Fits, SeesPlace}
use Rattle.cell_book.proofs.Lists.{set_here}
use Rattle.cell_book.proofs.Onwards.{reaches_same}
use Rattle.cell_book.proofs.Moves.{begins_reaches, makes_reaches, claims_reaches, finishes_reaches, fails_reaches, gives_up_reaches}
use Rattle.seq_lawful.proofs.Looking.{last_is}
use Rattle.lawful_works.specs.Evaluated.{SameNotes, HasError}
use Rattle.lawful_works.specs.Alone.{Becomes, Grows, Quiets, MakeNotes, ClaimNotes, MakesQuietly, ClaimsQuietly, BegunThen, BeginsQuietly}

-- one who is alone noted the book of the step, before it and after it
pub becomes : (alone leads : Bool) (law noted noted2 : Account → Type 0) (g : Glimpse) (mine : ℕ → ℕ) (P : Account → Account → Type 0) (a b : Account) → Fits alone leads law noted g mine a → ((c d : Account) → noted c → noted d → c ≡ d) → (alone ≡ true → noted2 b) → P a b → Becomes alone noted noted2 P
becomes true leads law noted noted2 g mine P a b fits one new p = λ is c n. (b, new is, subst (λ x. P x b) (one a c fits.0 n) p)
becomes false leads law noted noted2 g mine P a b fits one new p = λ is c n. (let z : false ≡ true = is in absurd cc)

-- a book that stays the same
same_notes : (a b : Account) → b ≡ a → SameNotes a b
same_notes a b e = (ap (λ (x : Account). x.spent) e, ap (λ (x : Account). x.gave_up) e)

pub quiet_same : (a b : Account) → b ≡ a → Quiets a b
quiet_same a b e = (record { reaches = subst (λ (x : Account). Reaches (glimpse a) (glimpse x)) (sym e) (reaches_same (glimpse a)); begun_same = ap begun e }, same_notes a b e)

pub looks_quietly : (a b : Account) (id : ℕ) (answer : LookAnswer) → Looks a id answer b → Quiets a b
looks_quietly a b id answer s = quiet_same a b s.0

-- a make
makes_begun : (a b : Account) (by : Duty) (t : Term) (kind : Kind) (answer : MakeAnswer) → Makes a by t kind answer b → begun b ≡ begun a
makes_begun a b by t kind (Ok id) (i, room, e) = ap begun e
makes_begun a b by t kind (Err (M.Spent back)) (i, full, e) = ap begun e
makes_begun a b by t kind (Err (M.Memory back)) (i, e) = ap begun e

makes_noted : (a b : Account) (by : Duty) (t : Term) (kind : Kind) (answer : MakeAnswer) → Makes a by t kind answer b → MakeNotes answer a b
makes_noted a b by t kind (Ok id) (i, room, e) = (ap (λ (x : Account). x.spent) e, ap (λ (x : Account). x.gave_up) e)
makes_noted a b by t kind (Err (M.Spent back)) (i, full, e) = ap (λ (x : Account). x.spent) e
makes_noted a b by t kind (Err (M.Memory back)) (i, e) = same_notes a b e

pub makes_quietly : (a b : Account) (by : Duty) (t : Term) (kind : Kind) (answer : MakeAnswer) → Makes a by t kind answer b → MakesQuietly answer a b
makes_quietly a b by t kind answer s = (record { reaches = makes_reaches a b by t kind answer s; begun_same = makes_begun a b by t kind answer s }, makes_noted a b by t kind answer s)

-- a claim
barred_up : (spent up : Bool) → cond spent false up ≡ true → up ≡ true
barred_up true up e = let z : false ≡ true = e in absurd cc
barred_up false up e = e

claims_begun : (a b : Account) (id : ℕ) (asker : Option ℕ) (answer : ClaimAnswer) → Claims a id asker answer b → begun b ≡ begun a
claims_begun a b id asker (Ok w) (bar, (p, at, empty, fresh, pl, oc, e)) = ap begun e
claims_begun a b id asker (Err r) (e, o) = ap begun e

claims_noted : (a b : Account) (id : ℕ) (asker : Option ℕ) (answer : ClaimAnswer) → Claims a id asker answer b → ClaimNotes answer a b
claims_noted a b id asker (Ok w) (bar, (p, at, empty, fresh, pl, oc, e)) = (ap (λ (x : Account). x.spent) e, ap (λ (x : Account). x.gave_up) e)
claims_noted a b id asker (Err (C.Seen look)) (e, o) = same_notes a b e
claims_noted a b id asker (Err C.GaveUp) (e, o) = (same_notes a b e, barred_up a.spent a.gave_up o.1)
claims_noted a b id asker (Err C.Memory) (e, o) = same_notes a b e

pub claims_quietly : (a b : Account) (id : ℕ) (asker : Option ℕ) (answer : ClaimAnswer) → Claims a id asker answer b → ClaimsQuietly answer a b
claims_quietly a b id asker answer s = (record { reaches = claims_reaches a b id asker answer s; begun_same = claims_begun a b id asker answer s }, claims_noted a b id asker answer s)

-- a form is begun
begun_push : (fs : List Form) (f : Form) → begun_in (fs ++ f ∷ []) ≡ begun_in fs ++ f.number ∷ []
begun_push [] f = refl
begun_push (x ∷ fs) f = ap (λ l. x.number ∷ l) (begun_push fs f)

begins_then : (a b : Account) (number : ℕ) (answer : BeginAnswer) → Begins a number answer b → BegunThen number answer a b
begins_then a b number (Ok w) (pl, oc, fresh, e) = ap begun e ∙ begun_push a.forms (begun_form number w.claim)
begins_then a b number (Err r) e = ap begun e

begins_noted : (a b : Account) (number : ℕ) (answer : BeginAnswer) → Begins a number answer b → SameNotes a b
begins_noted a b number (Ok w) (pl, oc, fresh, e) = (ap (λ (x : Account). x.spent) e, ap (λ (x : Account). x.gave_up) e)
begins_noted a b number (Err r) e = same_notes a b e

pub begins_quietly : (a b : Account) (number : ℕ) (answer : BeginAnswer) → Begins a number answer b → BeginsQuietly number answer a b
begins_quietly a b number answer s = record { reaches = begins_reaches a b number answer s; begun_then = begins_then a b number answer s; notes = begins_noted a b number answer s }

-- a claim ends
begun_set : (fs : List Form) (k : ℕ) (f g : Form) → slice_get fs k ≡ Some f → g.number ≡ f.number → begun_in (slice_set fs k g) ≡ begun_in fs
begun_set [] k f g at e = absurd (none-some f at)
begun_set (x ∷ fs) zero f g at e = ap (λ i. i ∷ begun_in fs) (e ∙ ap (λ (y : Form). y.number) (sym (same_Some x f at)))
begun_set (x ∷ fs) (suc k) f g at e = ap (λ l. x.number ∷ l) (begun_set fs k f g at e)

module _ (a b : Account) (w : Duty) (end : ClaimEnd) (state : Kind → State) (value : Option Value) where
  ends_begun : Ends a w end state value b → begun b ≡ begun a
  ends_begun s = at w.place s
    where
      at : (x : Place) → Ends a (record { place = x; claim = w.claim; outcomes = w.outcomes }) end state value b → begun b ≡ begun a
      at (P.Form number k) (e, is) = ap begun is ∙ begun_set a.forms k (begun_form number w.claim) (record { number = number; attempt = closed w.claim None end; value = value }) e refl
      at (P.Part id kind term) (p, asker, past, e, o, is) = ap begun is

  ends_noted : Ends a w end state value b → SameNotes a b
  ends_noted s = at w.place s
    where
      at : (x : Place) → Ends a (record { place = x; claim = w.claim; outcomes = w.outcomes }) end state value b → SameNotes a b
      at (P.Form number k) (e, is) = (ap (λ (x : Account). x.spent) is, ap (λ (x : Account). x.gave_up) is)
      at (P.Part id kind term) (p, asker, past, e, o, is) = (ap (λ (x : Account). x.spent) is, ap (λ (x : Account). x.gave_up) is)

pub finishes_quietly : (a b : Account) (w : Duty) (v : Value) → Finishes a w v b → Quiets a b
finishes_quietly a b w v s = (record { reaches = finishes_reaches a b w v s; begun_same = ends_begun a b w E.Value (λ _. S.Done v) (Some v) s }, ends_noted a b w E.Value (λ _. S.Done v) (Some v) s)

pub fails_quietly : (a b : Account) (w : Duty) (why : Thrown) → Fails a w why b → Quiets a b
fails_quietly a b w why s = (record { reaches = fails_reaches a b w why s; begun_same = ends_begun a b w (E.Error why) (failed_state why) None s }, ends_noted a b w (E.Error why) (failed_state why) None s)

pub gives_up_growing : (a b : Account) (w : Duty) → GivesUp a w b → Grows a b
gives_up_growing a b w (m, s, e) = record { reaches = gives_up_reaches a b w (m, s, e); begun_same = ap begun e ∙ ends_begun a m w E.GivenUp (λ _. S.Empty) None s }

-- the error stands in the form, or among the attempts on the part
pub has_error : (a b : Account) (h : Glimpse) (w : Duty) (why : Thrown) → Fails a w why b → SeesPlace w.place b h → HasError h w why
has_error a b h w why s place = at w.place s place
  where
    at : (x : Place) → Fails a (record { place = x; claim = w.claim; outcomes = w.outcomes }) why b → SeesPlace x b h → HasError h (record { place = x; claim = w.claim; outcomes = w.outcomes }) why
    at (P.Form number k) (e, is) seen =
        let f : Form = record { number = number; attempt = closed w.claim None (E.Error why); value = None } in
        (f, seen ∙ (ap (λ (z : Account). slice_get z.forms k) is ∙ set_here a.forms k (begun_form number w.claim) f e), refl)
    at (P.Part zero kind term) (p, asker, past, e, o, is) seen = absurd (none-some p e)
    at (P.Part (suc i) kind term) (p, asker, past, e, o, is) seen =
        let x : Attempt = closed w.claim asker (E.Error why) in
        let q = after_claim p w.claim asker past (E.Error why) (failed_state why p.kind) in
        (q, x, seen ∙ (ap (λ (z : Account). cell_at z (suc i)) is ∙ set_here a.cells i p q e), last_is past x, refl, refl)
