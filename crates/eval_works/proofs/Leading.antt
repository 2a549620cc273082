-- A work's run goes on as the work itself does, and by what a part shows.
use Rattle.std.proofs.Common.{◌≡◌, ℕ, suc, List, Result, Ok, Err, refl, ap, sym, subst}
use Rattle.std.specs.Prelude.{IfOk, IfErr}
use Rattle.seq_values.specs.Model.{Value}
use Rattle.seq_values.specs.Plain.{plain}
use Rattle.clj_script.specs.Seen.{seen}
use Rattle.seq_plan.specs.Plan.{Plan, give, throw}
use Rattle.seq_meaning.specs.Evaluates.{Script}
use Rattle.seq_meaning.specs.Trail.{Trail}
use Rattle.seq_lawful.specs.Runs.{script_in}
use Rattle.seq_lawful.proofs.Going.{on_walked}
use Rattle.cell_book.specs.declared.answers.Look.{Look}
use Rattle.cell_book.specs.declared.answers.Look.TheVariants as L
use Rattle.cell_book.specs.declared.answers.MakeRefusal.{MakeRefusal}
use Rattle.cell_book.specs.declared.answers.MakeRefusal.TheVariants as M
use Rattle.cell_book.specs.declared.answers.ClaimRefusal.{ClaimRefusal}
use Rattle.cell_book.specs.declared.answers.ClaimRefusal.TheVariants as C
use Rattle.cell_book.specs.Account.{Duty}
use Rattle.cell_book.specs.Glimpses.{Glimpse, SeesSpent, SeesGaveUp}
use Rattle.eval_frames.specs.Frames as F
use Rattle.eval_frames.specs.Frames.{Ground, beneath, asking_plan, asker_plan}
use Rattle.eval_frames.specs.Leads.{Moves, LeadsTo}
use Rattle.eval_frames.specs.declared.state.Asker.{Asker}
use Rattle.eval_frames.specs.declared.state.Event.{Event}
use Rattle.eval_frames.specs.declared.state.Event.TheVariants as E
use Rattle.lawful_works.specs.Basis.{Basis, RunsTo, StaysOn}
use Rattle.lawful_works.specs.Calls.{Looked, Refused}
use Rattle.eval_works.specs.declared.state.Asked.{Asked}
use Rattle.eval_works.specs.declared.state.Asked.TheVariants as A
use Rattle.eval_works.specs.declared.state.Claimed.{Claimed}
use Rattle.eval_works.specs.declared.state.Claimed.TheVariants as K
use Rattle.eval_works.specs.declared.state.Halt.{Halt}
use Rattle.eval_works.specs.Standing.{GoesBy, basis, left_of, plan_of, AskerOn, EventOn}
use Rattle.eval_works.specs.Halts.{MakeHalts, ClaimHalts, make_halt}
use Rattle.eval_works.specs.Asked.{IsKnown, IsKnownRefusal, Told, told_done, told_failed, told_empty, told_waits, NotOpened, AskedOn, ClaimedOn}

module _ {S : Type 0} (by : Ground S) (limit : ℕ) (g : Glimpse) (w : Duty) (goes : GoesBy by.code w) where
  abbrev y : Basis
  y = basis by limit

  abbrev script : List (Value ℕ) → Script ℕ
  script defs = record { rules = by.table by.code.processors; functions = (seen by.code.program).functions; bodies = (seen by.code.program).bodies; defs = defs }

  -- the script is the same
  pub same_script : F.script_in by ≡ script_in y.rules y.program y.limit w.outcomes
  same_script = ap script goes

  -- with no ask and no make
  pub moved : (n m : ℕ) (p q : Plan ℕ) → Moves (F.script_in by) n p m q → RunsTo y g w n p → RunsTo y g w m q
  moved n m p q s r = on_walked y.rules y.program y.limit g w n m p q r (subst (λ z. Trail z y.limit r.whole m q r.asks r.mades) same_script (s.on y.limit r.whole r.asks r.mades (subst (λ z. Trail z y.limit r.whole n p r.asks r.mades) (sym same_script) r.trail)))

module _ {S : Type 0} {b : _} (by : Ground S) (limit : ℕ) (g : Glimpse) (w : Duty) (goes : GoesBy by.code w) where
  pub led : (n : ℕ) (p : Plan ℕ) (e : Event S b) → LeadsTo by n p e → RunsTo (basis by limit) g w n p → EventOn by limit g w e
  led n p (E.Went r) s o = moved by limit g w goes n (left_of (E.Went r)) p (plan_of by (E.Went r)) s o
  led n p (E.Asks a) s o = moved by limit g w goes n (left_of (E.Asks a)) p (plan_of by (E.Asks a)) s o
  led n p (E.Makes kind t maker rest) s o = moved by limit g w goes n (left_of (E.Makes kind t maker rest)) p (plan_of by (E.Makes kind t maker rest)) s o
  led n p (E.Gives v left) s o = moved by limit g w goes n left p (give (plain v.value)) s o
  led n p (E.Throws why left) s o = moved by limit g w goes n left p (throw why) s o

  pub led_ok : {H : Type 0} (n : ℕ) (p : Plan ℕ) (r : Result (Event S b) H) → IfOk r (λ e. LeadsTo by n p e) → RunsTo (basis by limit) g w n p → IfOk r (λ e. EventOn by limit g w e)
  led_ok n p (Ok e) s o = led n p e s o
  led_ok n p (Err h) s o = tt

-- a part that shows to be asked still is empty
pub empty_told : {S : Type 0} {b : _} (by : Ground S) (a z : Asker S b) (l : Look) (x : Asked S b) → Told by a l x → x ≡ A.Empty z → l ≡ L.Empty
empty_told by a z _ _ (told_done s) e = absurd cc
empty_told by a z _ _ told_failed e = absurd cc
empty_told by a z _ _ told_empty e = refl
empty_told by a z _ _ told_waits e = absurd cc

-- what was known of what the part shows
pub known : (g h : Glimpse) (w : Duty) (c : ℕ) (l : Look) → Looked g h w c l → IsKnown l
known g h w c (L.Done v) k = k.goes.0
known g h w c (L.Failed why) k = tt
known g h w c L.Empty k = tt
known g h w c (L.Forcing d) k = tt
known g h w c L.Unknown k = k.goes

pub known_refusal : (g h : Glimpse) (w : Duty) (c : ℕ) (r : ClaimRefusal) → Refused g h w c r → IsKnownRefusal r
known_refusal g h w c (C.Seen l) k = (k.0, known g h w c l k.1)
known_refusal g h w c C.GaveUp k = tt
known_refusal g h w c C.Memory k = tt

module _ {S : Type 0} {b : _} (by : Ground S) (limit : ℕ) (g h : Glimpse) (w : Duty) (goes : GoesBy by.code w) (a : Asker S b) (stays : StaysOn g h w) (run : AskerOn by limit g w a) where
  pub told_on : (l : Look) (x : Asked S b) → Told by a l x → Looked g h w a.cell l → AskedOn by limit h w x
  told_on _ _ (told_done {v = v} {e = e} s) k = led by limit h w goes a.rest.left (asking_plan by a.asking (beneath by a.rest) (plain v)) e s (k.goes.1 (basis by limit) a.rest.left (asking_plan by a.asking (beneath by a.rest)) run)
  told_on _ _ (told_failed {why = why}) k = k.goes (basis by limit) a.rest.left (asking_plan by a.asking (beneath by a.rest)) run
  told_on _ _ told_empty k = (stays (basis by limit) (suc a.rest.left) (asker_plan by a) run, sym k.shows)
  told_on _ _ (told_waits {claim = claim}) k = (stays (basis by limit) (suc a.rest.left) (asker_plan by a) run, sym k.shows)

  pub told_ok : (l : Look) (r : Result (Asked S b) Halt) → IfOk r (λ x. Told by a l x) → Looked g h w a.cell l → IfOk r (λ x. AskedOn by limit h w x)
  told_ok l (Ok x) s k = told_on l x s k
  told_ok l (Err e) s k = tt

  pub not_opened_on : (why : ClaimRefusal) (r : Result (Claimed S b) Halt) → NotOpened by a why r → Refused g h w a.cell why → IfOk r (λ x. ClaimedOn by limit h w x)
  not_opened_on (C.Seen l) (Ok (K.Comes e)) s k = told_on l (A.Comes e) s k.1
  not_opened_on (C.Seen l) (Ok (K.Waits z c)) s k = told_on l (A.Waits z c) s k.1
  not_opened_on (C.Seen l) (Ok (K.Opened z v)) s k = elim s [ ]
  not_opened_on (C.Seen l) (Err e) s k = tt
  not_opened_on C.GaveUp r s k = subst (λ z. IfOk z (λ x. ClaimedOn by limit h w x)) (sym s) tt
  not_opened_on C.Memory r s k = subst (λ z. IfOk z (λ x. ClaimedOn by limit h w x)) (sym s) tt

pub make_halts : (h : Glimpse) (r : MakeRefusal) → SeesSpent r h → MakeHalts h (make_halt r)
make_halts h (M.Spent t) s = s
make_halts h (M.Memory t) s = tt

module _ {S : Type 0} {b : _} (by : Ground S) (a : Asker S b) where
  pub claim_halts : (h : Glimpse) (why : ClaimRefusal) (r : Result (Claimed S b) Halt) → NotOpened by a why r → SeesGaveUp why h → IfErr r (λ e. ClaimHalts h e)
  claim_halts h (C.Seen l) (Ok x) s g = tt
  claim_halts h (C.Seen l) (Err e) s g = subst (ClaimHalts h) (sym s) tt
  claim_halts h C.GaveUp r s g = subst (λ z. IfErr z (λ e. ClaimHalts h e)) (sym s) g
  claim_halts h C.Memory r s g = subst (λ z. IfErr z (λ e. ClaimHalts h e)) (sym s) tt
