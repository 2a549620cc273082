-- What each call on a book is to the rule.
use Rattle.std.proofs.Common.{◌≡◌, ◌≢◌, ℕ, zero, suc, ◌+◌, ◌<◌, ◌≤◌, Bool, true, true≢false, List, [], ◌∷◌, ◌++◌, length, Some, None, Ok, Err, Option, sym, refl, ap, ◌∙◌, subst, arith, length-append, ⊎_elim}
use Rattle.std.specs.Prelude.{slice_get, slice_set}
use Rattle.std.proofs.lemmas.Option.{none-some, same_Some}
use Rattle.seq_base.specs.declared.thrown.Thrown.{Thrown}
use Rattle.seq_vector.specs.declared.share.NoMemory.{NoMemory}
use Rattle.seq_values.specs.declared.value.Value.{Value}
use Rattle.seq_values.specs.declared.term.Term.{Term}
use Rattle.seq_values.specs.declared.words.Kind.{Kind}
use Rattle.seq_values.specs.declared.words.Kind.TheVariants.{Future}
use Rattle.cell_book.specs.declared.answers.MakeRefusal.TheVariants as M
use Rattle.cell_book.specs.declared.answers.ClaimRefusal.{ClaimRefusal}
use Rattle.cell_book.specs.declared.cell.State.{State}
use Rattle.cell_book.specs.declared.cell.State.TheVariants as S
use Rattle.cell_book.specs.declared.cell.ClaimEnd.{ClaimEnd}
use Rattle.cell_book.specs.declared.cell.Attempt.{Attempt}
use Rattle.cell_book.specs.declared.cell.Cell.{Cell}
use Rattle.cell_book.specs.declared.cell.Form.{Form}
use Rattle.cell_book.specs.declared.work.Place.{Place}
use Rattle.cell_book.specs.declared.work.Place.TheVariants as P
use Rattle.cell_book.specs.Account.{Account, Duty, cell_at, opened, closed, opens, begun, begun_in, IsSound}
use Rattle.cell_book.specs.Steps.{begun_form, claimed, with_cell, with_form, asker_of, Begins, BeginAnswer, Makes, MakeAnswer, Looks, LookAnswer, Kinds, KindAnswer, FindsFuture, FutureAnswer, Claims, ClaimAnswer, Ends, Finishes, Fails, GivesUp}
use Rattle.cell_book.specs.Glimpses.{Glimpse, glimpse, Reaches, IsForced, MayAsk, after_open, after_end}
use Rattle.cell_book.proofs.Lists.{get_set}
use Rattle.cell_book.proofs.Opening.{numbered_some}
use Rattle.cell_book.proofs.Moves.{begins_reaches, begins_onward, makes_reaches, makes_onward, makes_holds, claims_reaches, claims_onward, claims_holds, finishes_reaches, fails_reaches, gives_up_reaches, finishes_onward, fails_onward, gives_up_onward, finishes_holds, fails_holds, gives_up_holds}
use Rattle.cell_book.proofs.Stepping.{begins_opens, makes_opens, claims_opens, finishes_opens, fails_opens, gives_up_opens, begins_sound, makes_sound, claims_sound, finishes_sound, fails_sound, gives_up_sound}
use Rattle.cell_shared.specs.Growing.{IsQuiet, Asks, Turns}
use Rattle.cell_shared.proofs.Growing.{turns_same, opened_turns, ended_turns, fresh_forced, begun_set}

some_is : (x y : ℕ) → Some x ≡ Some y → x ≡ y
some_is x y e = same_Some x y e

-- what changes nothing
pub still_turns : (leads : Bool) (mine : ℕ → ℕ) (a b : Account) → IsSound a → Asks mine a → b ≡ a → Turns leads mine a b mine
still_turns leads mine a b s asks e = subst (λ (z : Account). Turns leads mine a z mine) (sym e) (turns_same leads mine a s asks)

pub looks_turns : (leads : Bool) (mine : ℕ → ℕ) (a b : Account) (id : ℕ) (answer : LookAnswer) → IsSound a → Asks mine a → Looks a id answer b → Turns leads mine a b mine
looks_turns leads mine a b id answer s asks h = still_turns leads mine a b s asks h.0

pub kinds_turns : (leads : Bool) (mine : ℕ → ℕ) (a b : Account) (id : ℕ) (answer : KindAnswer) → IsSound a → Asks mine a → Kinds a id answer b → Turns leads mine a b mine
kinds_turns leads mine a b id answer s asks h = still_turns leads mine a b s asks h.0

pub finds_turns : (leads : Bool) (mine : ℕ → ℕ) (a b : Account) (answer : FutureAnswer) → IsSound a → Asks mine a → FindsFuture a answer b → Turns leads mine a b mine
finds_turns leads mine a b None s asks h = still_turns leads mine a b s asks h.0
finds_turns leads mine a b (Some id) s asks h = still_turns leads mine a b s asks h.0

-- a form is begun

begun_push : (fs : List Form) (f : Form) → length (begun_in (fs ++ f ∷ [])) ≡ length (begun_in fs) + 1
begun_push [] f = refl
begun_push (x ∷ fs) f = let t = begun_push fs f in omega arith

pub begins_turns : (mine : ℕ → ℕ) (a b : Account) (number : ℕ) (answer : BeginAnswer) → IsSound a → Asks mine a → Begins a number answer b → Turns true mine a b (after_open mine answer)
begins_turns mine a b number (Err r) s asks h = still_turns true mine a b s asks h
begins_turns mine a b number (Ok w) s asks h =
    let more : length (begun b) ≡ length (begun a) + 1 = ap (λ (z : Account). length (begun z)) h.3 ∙ begun_push a.forms (begun_form number w.claim) in
    opened_turns true mine (after_open {E = NoMemory} mine (Ok w)) a b w.claim None
    (begins_sound a b number (Ok w) s h)
    record { reaches = begins_reaches a b number (Ok w) h; forms = omega arith; quiet = λ q e. absurd (omega arith) }
    h.2 asks (λ c. refl) (begins_opens a b number (Ok w) h)
    (λ c other _. begins_onward a b number (Ok w) c h other)
    (λ c other. (begins_onward a b number (Ok w) c h other).holds)
    (λ d e. absurd (none-some d e))
    (λ id d f. (
    let x : IsForced (glimpse (record a { forms = a.forms ++ begun_form number w.claim ∷ [] })) id w.claim (Some d) = subst (λ (z : Account). IsForced (glimpse z) id w.claim (Some d)) h.3 f in
    absurd (fresh_forced a w.claim id (Some d) h.2 (record { cell = x.cell; past = x.past; at = x.at; has = x.has }))))
    (λ no. absurd (true≢false no))

-- a part is made

made_begun : (a b : Account) (by : Duty) (t : Term) (k : Kind) (answer : MakeAnswer) → Makes a by t k answer b → begun b ≡ begun a
made_begun a b by t k (Ok id) h = ap begun h.2
made_begun a b by t k (Err (M.Spent back)) h = ap begun h.2
made_begun a b by t k (Err (M.Memory back)) h = ap begun h.1

pub makes_turns : (leads : Bool) (mine : ℕ → ℕ) (a b : Account) (by : Duty) (t : Term) (k : Kind) (answer : MakeAnswer) → IsSound a → ((c : ℕ) → mine c ≤ opens c a) → 0 < mine by.claim → Asks mine a → Makes a by t k answer b → Turns leads mine a b mine
makes_turns leads mine a b by t k answer s opened has asks h =
    let same = made_begun a b by t k answer h in
    let count = makes_opens a b by t k answer h in
    let part = opened by.claim in record {
      sound = makes_sound a b by t k answer s h;
      grows = record { reaches = makes_reaches a b by t k answer h; forms = (let e : length (begun b) ≡ length (begun a) = ap length same in omega arith); quiet = λ q e. (let z = q.idle by.claim in absurd (omega arith)) };
      counts = λ c. (let e = count c in omega arith);
      others = λ c none some. makes_onward a b by t k answer c h (λ e. (let m : mine c ≡ mine by.claim = ap mine e in absurd (omega arith)));
      begun = λ _. same;
      asks = λ c d id some f live. (let e = count d in asks c d id some ((makes_holds a b by t k answer c h).forced_back id (Some d) f) (omega arith));
      askers = λ c d id f live. (let e = count d in omega arith);
    }

-- a claim is opened

-- the asker of a claim is one's own
pub own_asker : (mine : ℕ → ℕ) (g : Glimpse) (id : ℕ) (by : Option Duty) → MayAsk mine g id by → (d : ℕ) → asker_of by ≡ Some d → 0 < mine d
own_asker mine g id None may d e = absurd (none-some d e)
own_asker mine g id (Some w) may d e = subst (λ (x : ℕ). 0 < mine x) (some_is w.claim d e) may.0

-- in a quiet book there is nothing to claim
quiet_claims : (mine : ℕ → ℕ) (g : Glimpse) (a b : Account) (id : ℕ) (by : Option Duty) (w : Duty) (X : Type 0) → Reaches g (glimpse a) → ((c : ℕ) → mine c ≤ opens c a) → MayAsk mine g id by → Claims a id (asker_of by) (Ok w) b → IsQuiet a → X
quiet_claims mine g a b id None w X reaches opened may h q =
    let p = h.1 in
    let t = reaches.cells id may.0 may.1 in
    let same : p.0 ≡ t.0 = same_Some p.0 t.0 (sym p.1 ∙ t.1) in
    let kind : p.0.kind ≡ Future = ap (λ (x : Cell). x.kind) same ∙ t.2.kind ∙ may.2 in
    absurd (q.futures id (p.0, p.1, kind, p.2))
quiet_claims mine g a b id (Some v) w X reaches opened may h q = let z = q.idle v.claim in let o = opened v.claim in let m = may.0 in absurd (omega arith)

claimed_begun : (a b : Account) (id : ℕ) (asker : Option ℕ) (w : Duty) → Claims a id asker (Ok w) b → begun b ≡ begun a
claimed_begun a b id asker w h = ap begun h.1.6

forcing_is : (c d : ℕ) → S.Forcing c ≡ S.Forcing d → c ≡ d
forcing_is c d e = cc

abbrev first_or : List Attempt → Attempt → Attempt
first_or [] d = d
first_or (z ∷ zs) d = z

abbrev rest_of : List Attempt → List Attempt
rest_of [] = []
rest_of (v ∷ vs) = vs

last_of : (x y : Attempt) (past past2 : List Attempt) → past ++ x ∷ [] ≡ past2 ++ y ∷ [] → x ≡ y
last_of x y [] [] e = ap (λ (l : List Attempt). first_or l x) e
last_of x y [] (z ∷ past2) e = let n : 1 ≡ suc (length (past2 ++ y ∷ [])) = ap length e in let k = length-append past2 (y ∷ []) in absurd (omega arith)
last_of x y (z ∷ past) [] e = let n : suc (length (past ++ x ∷ [])) ≡ 1 = ap length e in let k = length-append past (x ∷ []) in absurd (omega arith)
last_of x y (z ∷ past) (u ∷ past2) e = last_of x y past past2 (ap rest_of e)

-- who asked for the new claim
claimed_asker : (a b : Account) (id : ℕ) (asker : Option ℕ) (w : Duty) → Claims a id asker (Ok w) b → (j d : ℕ) → IsForced (glimpse b) j w.claim (Some d) → asker ≡ Some d
claimed_asker a b zero asker w (n, (p, at, s, f, x, y, is)) j d forced = absurd (none-some p at)
claimed_asker a b (suc i) asker w (n, (p, at, s, f, x, y, is)) j d forced =
    let there : cell_at (with_cell a (suc i) (claimed p w.claim asker)) j ≡ Some forced.cell = ap (λ (z : Account). cell_at z j) (sym is) ∙ forced.at in
    let t = numbered_some (slice_set a.cells i (claimed p w.claim asker)) j forced.cell there in
    ⊎_elim
    (λ (u : (t.0 ≡ i) × (claimed p w.claim asker ≡ forced.cell)). (
    let e : p.attempts ++ opened w.claim asker ∷ [] ≡ forced.past ++ opened w.claim (Some d) ∷ [] = ap (λ (q : Cell). q.attempts) u.1 ∙ forced.has.attempts in
    ap (λ (q : Attempt). q.asker) (last_of (opened w.claim asker) (opened w.claim (Some d)) p.attempts forced.past e)))
    (λ (u : (t.0 ≢ i) × (slice_get a.cells t.0 ≡ Some forced.cell)). absurd ((f.cells t.0 forced.cell u.1).state forced.has.state))
    (get_set a.cells i t.0 (claimed p w.claim asker) forced.cell t.2)

pub claims_turns : (leads : Bool) (mine : ℕ → ℕ) (g : Glimpse) (a b : Account) (id : ℕ) (by : Option Duty) (answer : ClaimAnswer) → IsSound a → Reaches g (glimpse a) → ((c : ℕ) → mine c ≤ opens c a) → Asks mine a → MayAsk mine g id by → Claims a id (asker_of by) answer b → Turns leads mine a b (after_open mine answer)
claims_turns leads mine g a b id by (Err r) s reaches opened asks may h = still_turns leads mine a b s asks h.0
claims_turns leads mine g a b id by (Ok w) s reaches opened asks may h =
    let asker = asker_of by in
    let same = claimed_begun a b id asker w h in
    let fresh = h.1.3 in
    opened_turns leads mine (after_open {E = ClaimRefusal} mine (Ok w)) a b w.claim asker
    (claims_sound a b id asker (Ok w) s h)
    record { reaches = claims_reaches a b id asker (Ok w) h; forms = (let e : length (begun b) ≡ length (begun a) = ap length same in omega arith); quiet = λ q e. quiet_claims mine g a b id by w (b ≡ a) reaches opened may h q }
    fresh asks (λ c. refl) (claims_opens a b id asker (Ok w) h)
    (λ c other not. claims_onward a b id asker (Ok w) c h other not)
    (λ c other. claims_holds a b id asker (Ok w) c h other)
    (own_asker mine g id by may)
    (claimed_asker a b id asker w h)
    (λ _. same)

-- a claim ends

form_begun : (a : Account) (k number claim : ℕ) (end : ClaimEnd) (value : Option Value) → slice_get a.forms k ≡ Some (begun_form number claim) → begun (with_form a k (record { number = number; attempt = closed claim None end; value = value })) ≡ begun a
form_begun a k number claim end value at = begun_set a.forms k (begun_form number claim) (record { number = number; attempt = closed claim None end; value = value }) at refl

place_begun : (a b : Account) (x : Place) (claim : ℕ) (outcomes : List Value) (end : ClaimEnd) (state : Kind → State) (value : Option Value) → Ends a (record { place = x; claim = claim; outcomes = outcomes }) end state value b → begun b ≡ begun a
place_begun a b (P.Form number k) claim outcomes end state value (at, is) = ap begun is ∙ form_begun a k number claim end value at
place_begun a b (P.Part id kind term) claim outcomes end state value (p, asker, past, at, has, is) = ap begun is

ended_begun : (a b : Account) (w : Duty) (end : ClaimEnd) (state : Kind → State) (value : Option Value) → Ends a w end state value b → begun b ≡ begun a
ended_begun a b w end state value h = place_begun a b w.place w.claim w.outcomes end state value h

pub finishes_turns : (leads : Bool) (mine : ℕ → ℕ) (a b : Account) (w : Duty) (v : Value) → IsSound a → ((c : ℕ) → mine c ≤ opens c a) → 0 < mine w.claim → Asks mine a → Finishes a w v b → Turns leads mine a b (after_end mine w)
finishes_turns leads mine a b w v s opened has asks h =
    ended_turns leads mine (after_end mine w) a b w s (finishes_sound a b w v s h) (finishes_reaches a b w v h) (ended_begun a b w _ _ _ h) opened has asks (λ c. refl) (finishes_opens a b w v h)
    (λ c other never. finishes_onward a b w v c h other never) (λ c other. finishes_holds a b w v c h other)

pub fails_turns : (leads : Bool) (mine : ℕ → ℕ) (a b : Account) (w : Duty) (why : Thrown) → IsSound a → ((c : ℕ) → mine c ≤ opens c a) → 0 < mine w.claim → Asks mine a → Fails a w why b → Turns leads mine a b (after_end mine w)
fails_turns leads mine a b w why s opened has asks h =
    ended_turns leads mine (after_end mine w) a b w s (fails_sound a b w why s h) (fails_reaches a b w why h) (ended_begun a b w _ _ _ h) opened has asks (λ c. refl) (fails_opens a b w why h)
    (λ c other never. fails_onward a b w why c h other never) (λ c other. fails_holds a b w why c h other)

pub gives_up_turns : (leads : Bool) (mine : ℕ → ℕ) (a b : Account) (w : Duty) → IsSound a → ((c : ℕ) → mine c ≤ opens c a) → 0 < mine w.claim → Asks mine a → GivesUp a w b → Turns leads mine a b (after_end mine w)
gives_up_turns leads mine a b w s opened has asks h =
    ended_turns leads mine (after_end mine w) a b w s (gives_up_sound a b w s h) (gives_up_reaches a b w h) (ap begun h.2 ∙ ended_begun a h.0 w _ _ _ h.1) opened has asks (λ c. refl) (gives_up_opens a b w h)
    (λ c other never. gives_up_onward a b w c h other never) (λ c other. gives_up_holds a b w c h other)
