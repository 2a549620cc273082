-- A work that has gone on from where it stood, with no own step.
use Rattle.std.proofs.Common.{◌≡◌, ℕ, ◌<◌, ◌≤◌, refl, subst, ◌∙◌, arith, IfOk, Ok, Err}
use Rattle.std.specs.declared.result.Result.{Result}
use Rattle.seq_plan.specs.Plan.{Plan}
use Rattle.eval_frames.specs.Frames.{Ground, script_in, runner_plan}
use Rattle.eval_frames.specs.Leads.{Moves, LeadsTo, Stands, Comes, Leads}
use Rattle.eval_frames.specs.Weights.{runner_weight}
use Rattle.eval_frames.specs.Steps.{TookStep}
use Rattle.eval_frames.specs.declared.state.Runner.{Runner}
use Rattle.eval_frames.specs.declared.state.Event.{Event}
use Rattle.eval_frames.specs.declared.state.Event.TheVariants as E
use Rattle.eval_frames.specs.declared.state.Advance.TheVariants as A
use Rattle.eval_frames.proofs.Moving.{stays, stands, further}

module _ {S : Type 0} {b : _} (by : Ground S) where
  pub record Gone (first r : Runner S b) : Type 0 where
    pub moves : Moves (script_in by) first.rest.left (runner_plan by first) r.rest.left (runner_plan by r)
    pub left : r.rest.left ≡ first.rest.left
    pub light : runner_weight by.code r ≤ runner_weight by.code first

  pub gone_none : (r : Runner S b) → Gone r r
  gone_none r = record { moves = stays (script_in by) r.rest.left (runner_plan by r); left = refl; light = omega arith }

  pub gone_on : (first r next : Runner S b) → Gone first r → Comes by r.rest.left (runner_plan by r) (runner_weight by.code r) (A.On next) → Gone first next
  gone_on first r next g h = record {
    moves = further (script_in by) g.moves h.goes;
    left = h.took ∙ g.left;
    light = let x = h.light in let y = g.light in omega (arith, x, y);
  }

  pub lighter : (r next : Runner S b) → Comes by r.rest.left (runner_plan by r) (runner_weight by.code r) (A.On next) → runner_weight by.code next < runner_weight by.code r
  lighter r next h = let x = h.light in omega (arith, x)

  -- what a plan comes to, a plan that moves on to it comes to
  leads_further : {n m : ℕ} {p q : Plan ℕ} → Moves (script_in by) n p m q → (e : Event S b) → LeadsTo by m q e → LeadsTo by n p e
  leads_further f (E.Went x) h = further (script_in by) f h
  leads_further f (E.Asks a) h = further (script_in by) f h
  leads_further f (E.Makes kind t maker rest) h = further (script_in by) f h
  leads_further f (E.Gives v left) h = further (script_in by) f h
  leads_further f (E.Throws e left) h = further (script_in by) f h

  pub gone_event : (first r : Runner S b) (e : Event S b) → Gone first r → Comes by r.rest.left (runner_plan by r) (runner_weight by.code r) (A.Comes e) → Leads by first.rest.left (runner_plan by first) (runner_weight by.code first) e
  gone_event first r e g h = record {
    goes = leads_further g.moves e h.goes;
    took = subst (λ n. TookStep n e) g.left h.took;
    light = let x = h.light in let y = g.light in omega (arith, x, y);
  }

  -- ## What a run came to

  run_on : {n w : ℕ} {p : Plan ℕ} (r : Runner S b) (e : Event S b) → Comes by n p w (A.On r) → Leads by r.rest.left (runner_plan by r) (runner_weight by.code r) e → Leads by n p w e
  run_on r e h l = record {
    goes = leads_further h.goes e l.goes;
    took = subst (λ n. TookStep n e) h.took l.took;
    light = let x = h.light in let y = l.light in omega (arith, x, y);
  }

  pub ran_stands : {n w : ℕ} {p : Plan ℕ} (r : Runner S b) (e : Event S b) → Stands by n p w r → Leads by r.rest.left (runner_plan by r) (runner_weight by.code r) e → Leads by n p w e
  ran_stands r e h l = record {
    goes = leads_further (stands (script_in by) h.left h.plan) e l.goes;
    took = subst (λ n. TookStep n e) h.left l.took;
    light = let x = h.light in let y = l.light in omega (arith, x, y);
  }

  pub ran_on : {X : Type 0} (n w : ℕ) (p : Plan ℕ) (r : Runner S b) (e : Result (Event S b) X) → Comes by n p w (A.On r) → IfOk e (λ x. Leads by r.rest.left (runner_plan by r) (runner_weight by.code r) x) → IfOk e (λ x. Leads by n p w x)
  ran_on n w p r (Ok e) h l = run_on r e h l
  ran_on n w p r (Err x) h l = tt

  -- an event that came at once
  pub came : {n w : ℕ} {p : Plan ℕ} {e : Event S b} → Comes by n p w (A.Comes e) → Leads by n p w e
  came h = record { goes = h.goes; took = h.took; light = h.light }
