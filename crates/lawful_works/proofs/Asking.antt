-- What a look and a claim are to the work that asks, and to the others.
use Rattle.std.proofs.Common.{◌≡◌, ◌≢◌, ◌⊎◌, inl, inr, ℕ, suc, ◌<◌, Bool, [], ◌∷◌, ◌++◌, Option, Some, None, Result, Ok, Err, refl, ap, sym, subst, ◌∙◌}
use Rattle.std.specs.Prelude.{IsTrue, IfOk, IfErr}
use Rattle.seq_base.specs.declared.thrown.Thrown.{Thrown}
use Rattle.seq_values.specs.Model.{Value, Outcome, threw}
use Rattle.seq_values.specs.Plain.{plain}
use Rattle.seq_values.specs.WellFormed.{are_well_formed}
use Rattle.clj_script.specs.Trees.{Program}
use Rattle.seq_plan.specs.Plan.{Plan, ask, throw, Rules}
use Rattle.cell_book.specs.declared.answers.Look.{Look}
use Rattle.cell_book.specs.declared.answers.ClaimRefusal.{ClaimRefusal}
use Rattle.cell_book.specs.declared.answers.ClaimRefusal.TheVariants as C
use Rattle.cell_book.specs.declared.cell.State.{State}
use Rattle.cell_book.specs.declared.cell.State.TheVariants as S
use Rattle.cell_book.specs.declared.cell.Cell.{Cell}
use Rattle.cell_book.specs.Account.{Account, Duty, cell_at}
use Rattle.cell_book.specs.Steps.{shown, shown_state, Looks, LookAnswer, Claims, ClaimAnswer, Opens}
use Rattle.cell_book.specs.Glimpses.{Glimpse, glimpse, Holds, Onward, Fits, Sees, SeesCell, after_open}
use Rattle.cell_book.proofs.Laws.{opened_held, new_claim, still_held}
use Rattle.cell_book.proofs.Onwards.{fits_onward, holds_then, holds_seen}
use Rattle.cell_book.proofs.Moves.{looks_onward, claims_holds, claims_onward, claims_refused}
use Rattle.seq_meaning.specs.Trail.{refused}
use Rattle.seq_meaning.proofs.TrailsAlike.{in_front}
use Rattle.seq_lawful.specs.Runs.{AnswerIn, in_value, in_failed, OnRun}
use Rattle.seq_lawful.proofs.Looking.{in_split}
use Rattle.seq_lawful.proofs.OnRuns.{on_answer}
use Rattle.seq_lawful.proofs.Going.{forced_seen, on_beside, on_claims}
use Rattle.seq_lawful.proofs.Begun.{on_claimed_seen}
use Rattle.lawful_works.specs.Proper.{IsProper}
use Rattle.lawful_works.specs.Basis.{StaysOn}
use Rattle.lawful_works.specs.Calls.{AsksNext, GoesOn, Looked, Refused, Opened}
use Rattle.lawful_works.proofs.Keeping.{good_now, run_now}
use Rattle.lawful_works.proofs.Works.{asked_there}

-- an error that the book has is met at once
on_threw : (rules : Rules ℕ) (program : Program) (limit : ℕ) (g : Glimpse) (w : Duty) (left c : ℕ) (k : Value ℕ → Plan ℕ) (why : Thrown) → OnRun rules program limit g w (suc left) (ask c k) → AnswerIn g w.claim c (threw why) → OnRun rules program limit g w left (throw why)
on_threw rules program limit g w left c k why r new = record {
  whole = r.whole;
  asks = r.asks ++ (c, threw why) ∷ [];
  mades = r.mades;
  stands = r.stands;
  trail = refused r.trail why;
  answers = λ d u i. answer d u (in_split r.asks (c, threw why) (d, u) i);
  numbers = r.numbers;
  cells = r.cells;
  all_asked = λ d x e i q. in_front r.asks (c, threw why) (r.all_asked d x e i q);
}
  where
    answer : (d : ℕ) (u : Outcome ℕ) → Rattle.seq_meaning.specs.Counts.IsIn (d, u) r.asks ⊎ ◌≡◌ {A = ℕ × Outcome ℕ} (c, threw why) (d, u) → AnswerIn g w.claim d u
    answer d u (inl i) = r.answers d u i
    answer d u (inr e) = subst (λ (y : ℕ × Outcome ℕ). AnswerIn g w.claim y.0 y.1) e new

-- one step, as it was seen
module _ (alone leads : Bool) (law noted : Account → Type 0) (g h : Glimpse) (mine mine2 : ℕ → ℕ) (a b : Account) (fits : Fits alone leads law noted g mine a) (sees : Sees leads mine2 g b h) where
  pub holds_over : (c : ℕ) → 0 < mine c → 0 < mine2 c → Holds c (glimpse a) (glimpse b) → Holds c g h
  holds_over c own still s = holds_seen leads mine2 c g b h (holds_then c g (glimpse a) (glimpse b) ((fits_onward alone leads law noted g mine a c fits own).holds) s) sees still

  pub stays_over : (u : Duty) → 0 < mine u.claim → 0 < mine2 u.claim → Onward u.claim (glimpse a) (glimpse b) → StaysOn g h u
  stays_over u own still o = λ y left plan r. on_beside y.rules y.program y.limit alone leads law noted g h mine mine2 a b fits sees u own still left plan r o

  -- the part at the step, for the work that asks
  module _ (u : Duty) (c : ℕ) (own : 0 < mine u.claim) (q : AsksNext alone law noted g u c) (same : b ≡ a) (cell : SeesCell c b h) (stays : StaysOn g h u) where
    there : (p : Cell) × (cell_at a c ≡ Some p)
    there =
        let y = q.basis in
        let o = q.governs in
        asked_there y.rules o.names y.program y.limit o.alike a (good_now alone leads law noted g mine y o a b fits).0 u q.left c q.after (run_now alone leads law noted g mine y o a b fits u (suc q.left) (ask c q.after) own q.run)

    pub looked : (l : Look) → l ≡ shown (cell_at a c) → Looked g h u c l
    looked l e = record { shows = e ∙ sym (ap shown (cell ∙ ap (λ (z : Account). cell_at z c) same)); goes = go there.0.state refl }
      where
        p : Cell
        p = there.0

        here : h.cells c ≡ Some p
        here = cell ∙ (ap (λ (z : Account). cell_at z c) same ∙ there.1)

        is : l ≡ shown_state p.state
        is = e ∙ ap shown there.1

        go : (s : State) → p.state ≡ s → GoesOn g h u c l
        go S.Empty z = subst (GoesOn g h u c) (sym (is ∙ ap shown_state z)) tt
        go (S.Forcing d) z = subst (GoesOn g h u c) (sym (is ∙ ap shown_state z)) tt
        go (S.Done v) z = subst (GoesOn g h u c) (sym (is ∙ ap shown_state z)) ((good_now alone leads law noted g mine q.basis q.governs a b fits).1.done c p v there.1 z, λ y left k r. on_answer y.rules y.program y.limit h u left c k (plain v) (stays y (suc left) (ask c k) r) (in_value p here z))
        go (S.Failed why) z = subst (GoesOn g h u c) (sym (is ∙ ap shown_state z)) (λ y left k r. on_threw y.rules y.program y.limit h u left c k why (stays y (suc left) (ask c k) r) (in_failed p here z))

  pub looked_at : (u : Duty) (c : ℕ) (answer : LookAnswer) → 0 < mine u.claim → 0 < mine2 u.claim → AsksNext alone law noted g u c → Looks a c answer b → SeesCell c b h → IfOk answer (λ l. Looked g h u c l)
  looked_at u c (Ok l) own still q s cell = looked u c own q s.0 cell (stays_over u own still (looks_onward a b c (Ok l) u.claim s)) l s.1
  looked_at u c (Err e) own still q s cell = tt

  pub claim_refused : (u : Duty) (c : ℕ) (r : ClaimRefusal) → 0 < mine u.claim → 0 < mine2 u.claim → AsksNext alone law noted g u c → Claims a c (Some u.claim) (Err r) b → SeesCell c b h → Refused g h u c r
  claim_refused u c (C.Seen l) own still q s cell = (s.1.1, looked u c own q s.0 cell (stays_over u own still (claims_refused a b c (Some u.claim) (C.Seen l) u.claim s)) l s.1.0)
  claim_refused u c C.GaveUp own still q s cell = tt
  claim_refused u c C.Memory own still q s cell = tt

  pub claims_seen : (u : Duty) (c : ℕ) (answer : ClaimAnswer) → 0 < mine u.claim → ((x : ℕ) → mine2 x ≡ after_open mine answer x) → AsksNext alone law noted g u c → Claims a c (Some u.claim) answer b → SeesCell c b h → IfErr answer (λ r. Refused g h u c r)
  claims_seen u c (Ok v) own held q s cell = tt
  claims_seen u c (Err r) own held q s cell = claim_refused u c r own (subst (λ n. 0 < n) (sym (held u.claim)) own) q s cell

  -- the work that was opened
  pub opens_work : (asker : Option ℕ) (c : ℕ) (answer : ClaimAnswer) → IsProper a → IfOk answer (λ w. asker ≢ Some w.claim) → ((x : ℕ) → mine2 x ≡ after_open mine answer x) → Claims a c asker answer b → SeesCell c b h → IfOk answer (λ w. Opened h asker c w)
  opens_work asker c (Err r) s apart held k cell = tt
  opens_work asker c (Ok v) s apart held k cell = go k.1
    where
      go : Opens a c asker v b → Opened h asker c v
      go (p, at, empty, fresh, pl, oc, eq) = record {
        on = record { kind = p.kind; term = p.term; place = pl; forced = forced_seen a b c asker v h k cell };
        proper = s.terms c p at;
        kept = subst (λ l. IsTrue (are_well_formed l)) (sym oc) (s.kept c p at);
        starts = λ y. on_claimed_seen y.rules y.program y.limit a b c asker v k apart leads mine2 g h c p.kind p.term pl sees (opened_held mine mine2 v (held v.claim)) cell;
      }

  -- the work that asks still asks
  pub asker_stays : (u : Duty) (c : ℕ) (answer : ClaimAnswer) → 0 < mine u.claim → IfOk answer (λ w. mine w.claim ≡ 0) → ((x : ℕ) → mine2 x ≡ after_open mine answer x) → Claims a c (Some u.claim) answer b → StaysOn g h u
  asker_stays u c (Ok v) own fresh held s = λ y left plan r. on_claims y.rules y.program y.limit alone leads law noted g h mine mine2 a b fits sees u own (still_held mine mine2 v u.claim (held u.claim) own) left c plan v r s (new_claim mine v u.claim fresh own)
  asker_stays u c (Err r) own fresh held s = stays_over u own (subst (λ n. 0 < n) (sym (held u.claim)) own) (claims_refused a b c (Some u.claim) r u.claim s)

  -- and the others stay
  pub others_claim : (asker : Option ℕ) (c : ℕ) (answer : ClaimAnswer) (u : Duty) → IfOk answer (λ w. mine w.claim ≡ 0) → ((x : ℕ) → mine2 x ≡ after_open mine answer x) → Claims a c asker answer b → 0 < mine u.claim → asker ≢ Some u.claim → StaysOn g h u
  others_claim asker c (Ok v) u fresh held s own other = stays_over u own (still_held mine mine2 v u.claim (held u.claim) own) (claims_onward a b c asker (Ok v) u.claim s (new_claim mine v u.claim fresh own) other)
  others_claim asker c (Err r) u fresh held s own other = stays_over u own (subst (λ n. 0 < n) (sym (held u.claim)) own) (claims_refused a b c asker r u.claim s)

  pub holds_claim : (asker : Option ℕ) (c : ℕ) (answer : ClaimAnswer) (d : ℕ) → IfOk answer (λ w. mine w.claim ≡ 0) → ((x : ℕ) → mine2 x ≡ after_open mine answer x) → Claims a c asker answer b → 0 < mine d → Holds d g h
  holds_claim asker c (Ok v) d fresh held s own = holds_over d own (still_held mine mine2 v d (held d) own) (claims_holds a b c asker (Ok v) d s (new_claim mine v d fresh own))
  holds_claim asker c (Err r) d fresh held s own = holds_over d own (subst (λ n. 0 < n) (sym (held d)) own) (claims_holds a b c asker (Err r) d s tt)

pub other_asker : (c d : ℕ) → d ≢ c → Some c ≢ Some d
other_asker c d n = λ e. n (let z : c ≡ d = cc in sym z)

-- a new claim is not its own asker
pub asker_apart : {E : Type 0} (mine : ℕ → ℕ) (by : Duty) (answer : Result Duty E) → 0 < mine by.claim → IfOk answer (λ w. mine w.claim ≡ 0) → IfOk answer (λ w. Some by.claim ≢ Some w.claim)
asker_apart mine by (Ok w) own fresh = other_asker by.claim w.claim (λ e. new_claim mine w by.claim fresh own (sym e))
asker_apart mine by (Err r) own fresh = tt

pub none_other : (d : ℕ) → ◌≢◌ {A = Option ℕ} None (Some d)
none_other d = λ e. cc

pub no_asker : {E : Type 0} (answer : Result Duty E) → IfOk answer (λ (w : Duty). ◌≢◌ {A = Option ℕ} None (Some w.claim))
no_asker (Ok w) = none_other w.claim
no_asker (Err r) = tt
