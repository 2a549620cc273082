-- Each step of the script keeps the law, and leaves its works where they are.
use Rattle.std.proofs.Common.{◌≡◌, ◌≢◌, ℕ, suc, ◌+◌, ◌-◌, ◌<◌, Bool, true, [], length, slice_get, Option, Some, Ok, Err, refl, ap, sym, subst, ◌∙◌, arith}
use Rattle.std.specs.Prelude.{IfOk, IfErr}
use Rattle.seq_values.specs.declared.words.Kind.{Kind}
use Rattle.seq_values.specs.declared.term.Term.{Term as CodedTerm}
use Rattle.seq_values.specs.declared.value.Value.{Value as Coded}
use Rattle.seq_values.specs.Model.{Value}
use Rattle.seq_values.specs.Plain.{plain, plain_term}
use Rattle.seq_plan.specs.Plan.{Plan, seq, make, give}
use Rattle.seq_meaning.specs.Evaluates.{term_plan}
use Rattle.cell_book.specs.declared.answers.ClaimRefusal.{ClaimRefusal}
use Rattle.cell_book.specs.declared.cell.Cell.{Cell}
use Rattle.cell_book.specs.declared.work.Place.TheVariants as P
use Rattle.cell_book.specs.Account.{Account, Duty, cell_at}
use Rattle.cell_book.specs.Steps.{new_cell, BeginAnswer, Begins, MakeAnswer, Makes, ClaimAnswer, Claims, Opens, Finishes, GivesUp}
use Rattle.cell_book.specs.Glimpses.{Glimpse, glimpse, Onward, Fits, Sees, SeesCell, SeesPlace, Owns, IsForced, at_claim, after_open, after_end}
use Rattle.cell_book.proofs.Laws.{still_lawful, still_owns, opened_held, still_held, ended_held, new_claim}
use Rattle.cell_book.proofs.Onwards.{fits_onward, fits_reaches, holds_then, holds_seen}
use Rattle.cell_book.proofs.Moves.{makes_onward, makes_here, makes_holds, claims_refused, gives_up_holds}
use Rattle.seq_lawful.specs.Runs.{script_in, OnRun, Kept}
use Rattle.seq_lawful.proofs.Begun.{on_begun_seen, on_claimed_seen}
use Rattle.seq_lawful.proofs.Discharge.{after_begin, after_make, after_claim, after_finish, after_give_up}
use Rattle.seq_lawful.proofs.OnRuns.{on_open}
use Rattle.seq_lawful.proofs.Going.{forced_seen, on_beside, on_makes, on_claims, on_finished}
use Rattle.lawful_table.proofs.Naming.{table_kept}
use Rattle.lawful_client.specs.OneMap.{the_form, one_map, steps, table, IsGood, KeepsGood, whole_map, rest_map, prints_first, form_makes, form_calls, form_waits, form_gives, part_makes, part_gives, one_before, RunsTo, HasTerm, AskedBy, IsNew}
use Rattle.lawful_client.proofs.Walks.{form_starts, form_asks, form_ends, part_starts, may_begin}

pub kept : Kept table one_map steps IsGood
kept = table_kept 4 32 one_map steps

-- one step, with what one has before and after it
module _ (alone alone2 leads : Bool) (law law2 noted noted2 : Account → Type 0) (g h : Glimpse) (mine mine2 : ℕ → ℕ) (same_alone : alone2 ≡ alone) (same_law : (c : Account) → (law c → law2 c) × (law2 c → law c)) (one2 : (c d : Account) → noted2 c → noted2 d → c ≡ d) (a b : Account) (fits : Fits alone leads law noted g mine a) (sees : Sees leads mine2 g b h) (new : alone ≡ true → noted2 b) (is : KeepsGood alone law noted) where
  after : IsGood b → KeepsGood alone2 law2 noted2
  after p = still_lawful alone alone2 law law2 noted noted2 IsGood b same_alone same_law one2 new p is

  pub begins_law : ((c d : Account) → noted c → noted d → c ≡ d) → leads ≡ true → IsNew noted g → (answer : BeginAnswer) → Begins a 1 answer b → KeepsGood alone2 law2 noted2
  begins_law one lead n answer s = after (after_begin law noted IsGood table one_map steps kept alone leads g mine is one lead 1 n.book n.known (may_begin n.book n.no_forms n.unspent) a b answer fits s)

  pub makes_law : (w : Duty) (n : ℕ) (kind : Kind) (t : CodedTerm) (k : ℕ → Plan ℕ) (answer : MakeAnswer) → RunsTo mine g w n (make kind (plain_term t) k) → Makes a w t kind answer b → KeepsGood alone2 law2 noted2
  makes_law w n kind t k answer r s = after (after_make law noted IsGood table one_map steps kept alone leads g mine is w r.0 n kind t k a b answer r.1 fits s)

  pub claims_law : (w : Duty) (c : ℕ) (answer : ClaimAnswer) → RunsTo mine g w 5 (form_waits c) → Claims a c (Some w.claim) answer b → KeepsGood alone2 law2 noted2
  claims_law w c answer r s = after (after_claim law noted IsGood table one_map steps kept alone leads g mine is w r.0 4 c (λ v. seq v prints_first) a b answer r.1 fits s)

  pub finishes_law : (w : Duty) (n : ℕ) (v : Coded) → RunsTo mine g w n (give (plain v)) → Finishes a w v b → KeepsGood alone2 law2 noted2
  finishes_law w n v r s = after (after_finish law noted IsGood table one_map steps kept alone leads g mine is w r.0 n v a b r.1 fits s)

  pub quits_law : (w : Duty) → Owns mine g w → GivesUp a w b → KeepsGood alone2 law2 noted2
  quits_law w o s = after (after_give_up law noted IsGood table one_map steps kept alone leads g mine is w o.0 a b o.1 fits s)

-- the work of a run is owned
pub owns_run : (held : ℕ → ℕ) (g : Glimpse) (w : Duty) (n : ℕ) (p : Plan ℕ) → RunsTo held g w n p → Owns held g w
owns_run held g w n p r = (r.0, on_open table one_map steps g w n p r.1)

-- what was seen
module _ (alone leads : Bool) (law noted : Account → Type 0) (g h : Glimpse) (mine mine2 : ℕ → ℕ) (a b : Account) (fits : Fits alone leads law noted g mine a) (sees : Sees leads mine2 g b h) where
  -- the form that was begun
  pub begins_run : leads ≡ true → g.begun ≡ [] → (answer : BeginAnswer) → Begins a 1 answer b → ((x : ℕ) → mine2 x ≡ after_open mine answer x) → IfOk answer (λ w. SeesPlace w.place b h) → IfOk answer (λ w. RunsTo mine2 h w 6 form_makes)
  begins_run lead none (Err e) s held place = tt
  begins_run lead none (Ok w) s held place = (own, form_starts h w (on_begun_seen table one_map steps a b 1 w s alone leads law noted g h mine mine2 fits lead sees own place the_form (subst (λ l. slice_get one_map.tops (length l) ≡ Some the_form) (sym none) refl) (λ k l. absurd (before k l))))
    where
      own : 0 < mine2 w.claim
      own = opened_held mine mine2 w (held w.claim)

      before : (k : ℕ) → k < length g.begun → ⊥
      before k l = let z : length g.begun ≡ 0 = ap length none in omega arith

  -- the part that was made, and its maker's run
  pub makes_run : (w : Duty) (n id : ℕ) (kind : Kind) (t : CodedTerm) (k : ℕ → Plan ℕ) → RunsTo mine g w n (make kind (plain_term t) k) → ((x : ℕ) → mine2 x ≡ mine x) → Makes a w t kind (Ok id) b → SeesCell id b h → RunsTo mine2 h w n (k id)
  makes_run w n id kind t k r held s cell = (own, on_makes table one_map steps alone leads law noted g h mine mine2 a b fits sees w r.0 own n id kind t k r.1 s cell)
    where
      own : 0 < mine2 w.claim
      own = subst (λ x. 0 < x) (sym (held w.claim)) r.0

  pub makes_whole : (w : Duty) (kind : Kind) (t : CodedTerm) (answer : MakeAnswer) → RunsTo mine g w 6 (make kind (plain_term t) form_calls) → ((x : ℕ) → mine2 x ≡ mine x) → Makes a w t kind answer b → IfOk answer (λ id. SeesCell id b h) → IfOk answer (λ id. RunsTo mine2 h w 5 (form_waits id))
  makes_whole w kind t (Err e) r held s cell = tt
  makes_whole w kind t (Ok id) r held s cell = let x = makes_run w 6 id kind t form_calls r held s cell in (x.0, form_asks h w id x.1)

  pub makes_rest : (w : Duty) (kind : Kind) (t : CodedTerm) (answer : MakeAnswer) → RunsTo mine g w 7 (make kind (plain_term t) part_gives) → ((x : ℕ) → mine2 x ≡ mine x) → Makes a w t kind answer b → IfOk answer (λ id. SeesCell id b h) → IfOk answer (λ id. RunsTo mine2 h w 7 (part_gives id))
  makes_rest w kind t (Err e) r held s cell = tt
  makes_rest w kind t (Ok id) r held s cell = makes_run w 7 id kind t part_gives r held s cell

  pub makes_term : (w : Duty) (kind : Kind) (t : CodedTerm) (answer : MakeAnswer) → plain_term t ≡ whole_map → Makes a w t kind answer b → IfOk answer (λ id. SeesCell id b h) → IfOk answer (λ id. HasTerm h id whole_map)
  makes_term w kind t (Err e) is s cell = tt
  makes_term w kind t (Ok id) is s cell = record { part = new_cell a w t kind; at = cell ∙ makes_here a b w t kind id s; term = is }

  -- the form that waits, beside a make of the part's work
  pub waits_on : (w form : Duty) (id : ℕ) (kind : Kind) (t : CodedTerm) (answer : MakeAnswer) → RunsTo mine g form 5 (form_waits id) → AskedBy g form w id → 0 < mine w.claim → ((x : ℕ) → mine2 x ≡ mine x) → Makes a w t kind answer b → RunsTo mine2 h form 5 (form_waits id) × AskedBy h form w id
  waits_on w form id kind t answer r by work held s = ((own, on_beside table one_map steps alone leads law noted g h mine mine2 a b fits sees form r.0 own 5 (form_waits id) r.1 (makes_onward a b w t kind answer form.claim s by.apart)), record { kind = by.kind; term = by.term; place = by.place; apart = by.apart; forced = forced })
    where
      own : 0 < mine2 form.claim
      own = subst (λ x. 0 < x) (sym (held form.claim)) r.0

      mine_own : 0 < mine2 w.claim
      mine_own = subst (λ x. 0 < x) (sym (held w.claim)) work

      forced : IsForced h id w.claim (Some form.claim)
      forced = (holds_seen leads mine2 w.claim g b h (holds_then w.claim g (glimpse a) (glimpse b) ((fits_onward alone leads law noted g mine a w.claim fits work).holds) (makes_holds a b w t kind answer w.claim s)) sees mine_own).forced id (Some form.claim) by.forced

  -- the part that was claimed
  module _ (form w : Duty) (c : ℕ) (r : RunsTo mine g form 5 (form_waits c)) (held : (x : ℕ) → mine2 x ≡ after_open {E = ClaimRefusal} mine (Ok w) x) (s : Claims a c (Some form.claim) (Ok w) b) (cell : SeesCell c b h) (fresh : mine w.claim ≡ 0) where
    apart : form.claim ≢ w.claim
    apart = new_claim mine w form.claim fresh r.0

    form_own : 0 < mine2 form.claim
    form_own = still_held mine mine2 w form.claim (held form.claim) r.0

    work_own : 0 < mine2 w.claim
    work_own = opened_held mine mine2 w (held w.claim)

    claims_form : RunsTo mine2 h form 5 (form_waits c)
    claims_form = (form_own, on_claims table one_map steps alone leads law noted g h mine mine2 a b fits sees form r.0 form_own 5 c (form_waits c) w r.1 s apart)

    placed : Opens a c (Some form.claim) w b → HasTerm g c whole_map → (p : Cell) × (w.place ≡ P.Part c p.kind p.term) × (plain_term p.term ≡ whole_map)
    placed (p, at, empty, f, pl, oc, eq) t =
        let q = (fits_reaches alone leads law noted g mine a fits).cells c t.part t.at in
        let e : q.0 ≡ p = (let x = q.1 in cc) in
        (p, pl, subst (λ (z : Cell). plain_term z.term ≡ whole_map) e (ap plain_term q.2.term ∙ t.term))

    claims_part : HasTerm g c whole_map → RunsTo mine2 h w 7 part_makes
    claims_part t =
        let q = placed s.1 t in
        (work_own, part_starts h w (subst (λ x. OnRun table one_map steps h w 8 (term_plan (script_in table one_map steps w.outcomes) x)) q.2 (on_claimed_seen table one_map steps a b c (Some form.claim) w s (λ e. apart (let i : form.claim ≡ w.claim = cc in i)) leads mine2 g h c q.0.kind q.0.term q.1 sees work_own cell)))

    claims_asked : HasTerm g c whole_map → AskedBy h form w c
    claims_asked t =
        let q = placed s.1 t in
        record { kind = q.0.kind; term = q.0.term; place = q.1; apart = apart; forced = forced_seen a b c (Some form.claim) w h s cell }

  pub claims_runs : (form : Duty) (c : ℕ) (answer : ClaimAnswer) → RunsTo mine g form 5 (form_waits c) → HasTerm g c whole_map → ((x : ℕ) → mine2 x ≡ after_open mine answer x) → Claims a c (Some form.claim) answer b → SeesCell c b h → IfOk answer (λ w. mine w.claim ≡ 0) → IfOk answer (λ w. RunsTo mine2 h form 5 (form_waits c)) × IfOk answer (λ w. RunsTo mine2 h w 7 part_makes) × IfOk answer (λ w. AskedBy h form w c)
  claims_runs form c (Err e) r t held s cell fresh = (tt, tt, tt)
  claims_runs form c (Ok w) r t held s cell fresh = (claims_form form w c r held s cell fresh, claims_part form w c r held s cell fresh t, claims_asked form w c r held s cell fresh t)

  -- the part that was finished: the form has its value, and prints the first element
  pub finishes_run : (form w : Duty) (c d : ℕ) (v : Coded) → RunsTo mine g form 5 (form_waits c) → AskedBy g form w c → 0 < mine w.claim → plain v ≡ one_before d → ((x : ℕ) → mine2 x ≡ after_end mine w x) → Finishes a w v b → SeesPlace w.place b h → RunsTo mine2 h form 3 form_gives
  finishes_run form w c d v r by work is held s place = (own, form_ends h form d (subst (λ x. OnRun table one_map steps h form 4 (seq x prints_first)) is (on_finished table one_map steps alone leads law noted g h mine mine2 a b fits sees form r.0 own 4 c (λ x. seq x prints_first) w v by.kind by.term r.1 by.place work by.apart by.forced s place)))
    where
      own : 0 < mine2 form.claim
      own = ended_held mine mine2 w form.claim (held form.claim) by.apart r.0

  -- works that stay owned
  pub makes_owns : (by : Duty) (kind : Kind) (t : CodedTerm) (answer : MakeAnswer) → ((x : ℕ) → mine2 x ≡ mine x) → Makes a by t kind answer b → (w : Duty) → Owns mine g w → Owns mine2 h w
  makes_owns by kind t answer held s w o = still_owns alone leads law noted g h mine mine2 a b w o fits (makes_holds a b by t kind answer w.claim s) sees (subst (λ x. 0 < x) (sym (held w.claim)) o.0)

  pub claims_owns : (c : ℕ) (asker : Option ℕ) (answer : ClaimAnswer) (w : Duty) → ((x : ℕ) → mine2 x ≡ after_open mine answer x) → Claims a c asker answer b → Owns mine g w → IfErr answer (λ _. Owns mine2 h w)
  claims_owns c asker (Ok v) w held s o = tt
  claims_owns c asker (Err r) w held s o = still_owns alone leads law noted g h mine mine2 a b w o fits ((claims_refused a b c asker r w.claim s).holds) sees (subst (λ x. 0 < x) (sym (held w.claim)) o.0)

  pub quits_owns : (v : Duty) → ((x : ℕ) → mine2 x ≡ after_end mine v x) → GivesUp a v b → (w : Duty) → w.claim ≢ v.claim → Owns mine g w → Owns mine2 h w
  quits_owns v held s w apart o = still_owns alone leads law noted g h mine mine2 a b w o fits (gives_up_holds a b v w.claim s apart) sees (ended_held mine mine2 v w.claim (held w.claim) apart o.0)
