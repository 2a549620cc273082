-- What an input may be passed on to.
use Rattle.std.specs.declared.result.Result.{Result}
use Rattle.std.proofs.Common.{◌≡◌, ℕ, Ok, Err, IfOk, Bool, true, List, refl, sym, subst}
use Rattle.seq_values.specs.Model as M
use Rattle.seq_plan.specs.Plan.{Plan, Loop, Round}
use Rattle.seq_plan.specs.Stages.{Sink, Onward}
use Rattle.seq_turns.specs.Turning.{Silent, arrives, opens, finds}
use Rattle.seq_turns.proofs.Taking.{joins}
use Rattle.stage_rows.specs.Table.{stage_round}
use Rattle.seq_values.specs.Plain.{plain}
use Rattle.seq_turns.specs.declared.proper.Proper.{Proper}
use Rattle.xf_stages.specs.Left.{Course, StageSilent, Goes, at_rest, entering, through, is_enter_loop}
use Rattle.xf_stages.specs.declared.state.Flow.{Flow}
use Rattle.xf_stages.specs.Flowing.{Leads}
use Rattle.xf_stages.specs.declared.state.Passing.{Passing}
use Rattle.xf_stages.specs.declared.state.Passing.TheVariants as G
use Rattle.xf_stages.specs.declared.state.StageTurn.{StageTurn}

-- a course may be passed on to another, whatever the sink is and whatever goes on after it
abbrev pub Passes : Course → Course → Type 0
Passes p q = (sink : Sink ℕ) (k : Onward ℕ) → StageSilent (p sink k) (q sink k)

pub same_plan : {p q : Plan ℕ} → p ≡ q → StageSilent p q
same_plan {p = p} e = subst (λ x. StageSilent p x) e arrives

-- a rule with more loops of its own passes over what stages do
pub silent_more : {own : Loop → Bool} → ((l : Loop) → is_enter_loop l ≡ true → own l ≡ true) → {p q : Plan ℕ} → StageSilent p q → Silent own stage_round p q
silent_more h arrives = arrives
silent_more h (opens {l = l} o s) = opens (h l o) (silent_more h s)
silent_more h (finds e s) = finds e (silent_more h s)

-- what a callee may have
pub in_ok : {X E : Type 0} {P Q : X → Type 0} (r : Result X E) → ((x : X) → P x → Q x) → IfOk r P → IfOk r Q
in_ok (Ok x) f h = f x h
in_ok (Err e) f h = tt

module _ {stages : List (M.Value ℕ)} where
  -- what is passed on to a course that leads further leads there too
  pub leads_from : {p q : Course} {r : Passing} → Passes p q → Leads stages q r → Leads stages p r
  leads_from s h = record { goes = λ sink k. joins (s sink k) (h.goes sink k); step = h.step; rests = h.rests }

  pub leads_same : {p q : Course} {r : Passing} → ((sink : Sink ℕ) (k : Onward ℕ) → p sink k ≡ q sink k) → Leads stages q r → Leads stages p r
  leads_same e h = leads_from (λ sink k. same_plan (e sink k)) h

  pub goes_from : {p q : Course} {r : StageTurn} → Passes p q → Goes stages q r → Goes stages p r
  goes_from s h = record { goes = λ sink k. joins (s sink k) (h.goes sink k); step = h.step; rests = h.rests }

  pub goes_same : {p q : Course} {r : StageTurn} → ((sink : Sink ℕ) (k : Onward ℕ) → p sink k ≡ q sink k) → Goes stages q r → Goes stages p r
  goes_same e h = goes_from (λ sink k. same_plan (e sink k)) h

  -- a turn that is due
  pub turned : {p : Course} {t : StageTurn} → Leads stages p (G.Turned t) → Goes stages p t
  turned h = record { goes = h.goes; step = h.step; rests = h.rests }

-- the stages that stand at rest are the same
pub leads_at : {a b : List (M.Value ℕ)} {p : Course} {r : Passing} → a ≡ b → Leads a p r → Leads b p r
leads_at {p = p} {r = r} e h = subst (λ l. Leads l p r) e h

-- what goes on from where an input stands
pub enters_next : {stages : List (M.Value ℕ)} {p : Course} (f : Flow) (at : ℕ) (x : Proper) (r : Passing) → Leads stages p (G.Entering f at x) → Leads (at_rest f) (entering f at (plain x.value)) r → Leads stages p r
enters_next f at x r h l = leads_at h.rests (leads_from h.goes l)

pub through_next : {stages : List (M.Value ℕ)} {p : Course} (f : Flow) (done : Bool) (r : Passing) → Leads stages p (G.Through f done) → Leads (at_rest f) (through f done) r → Leads stages p r
through_next f done r h l = leads_at h.rests (leads_from h.goes l)
