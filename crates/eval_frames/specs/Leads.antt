-- What a piece of a work does to the plan that is left.
use Rattle.std.specs.Prelude.{◌≡◌, ℕ, suc, ◌+◌, ◌≤◌, List}
use Rattle.clj_script.specs.Trees.{Expr}
use Rattle.seq_values.specs.Model.{Value, Outcome}
use Rattle.seq_values.specs.Plain.{plain, plains}
use Rattle.seq_plan.specs.Plan.{Plan, give, throw}
use Rattle.seq_meaning.specs.Evaluates.{Script, eval}
use Rattle.seq_meaning.specs.Trail.{Trail}
use Rattle.seq_meaning.specs.Walk.{Made}
use Rattle.eval_frames.specs.Frames.{Ground, script_in, beneath, runner_plan, asker_plan, makes_plan}
use Rattle.eval_frames.specs.Weights.{weight, rest_weight, runner_weight, event_weight, advance_weight}
use Rattle.eval_frames.specs.Steps.{TookStep, TookNode}
use Rattle.eval_frames.specs.declared.state.Rest.{Rest}
use Rattle.eval_frames.specs.declared.state.Runner.{Runner}
use Rattle.eval_frames.specs.declared.state.Entered.{Entered}
use Rattle.eval_frames.specs.declared.state.Entered.TheVariants as N
use Rattle.eval_frames.specs.declared.state.Event.{Event}
use Rattle.eval_frames.specs.declared.state.Event.TheVariants as E
use Rattle.eval_frames.specs.declared.state.Advance.{Advance}
use Rattle.eval_frames.specs.declared.state.Advance.TheVariants as A

-- each trail to the one plan goes on to the other, with no ask and no make
pub record Moves (script : Script ℕ) (n : ℕ) (p : Plan ℕ) (m : ℕ) (q : Plan ℕ) : Type 0 where
  pub on : (limit : ℕ) (whole : Plan ℕ) (asked : List (ℕ × Outcome ℕ)) (mades : List (ℕ × Made ℕ)) → Trail script limit whole n p asked mades → Trail script limit whole m q asked mades

module _ {S : Type 0} {b : _} (by : Ground S) where
  -- With so many own steps left and this plan, a work comes to the event. The own step of an ask is taken after it.
  abbrev pub LeadsTo : ℕ → Plan ℕ → Event S b → Type 0
  LeadsTo n p (E.Went r) = Moves (script_in by) n p r.rest.left (runner_plan by r)
  LeadsTo n p (E.Asks a) = Moves (script_in by) n p (suc a.rest.left) (asker_plan by a)
  LeadsTo n p (E.Makes kind t maker rest) = Moves (script_in by) n p rest.left (makes_plan by kind t maker rest)
  LeadsTo n p (E.Gives v left) = Moves (script_in by) n p left (give (plain v.value))
  LeadsTo n p (E.Throws e left) = Moves (script_in by) n p left (throw e)

  abbrev pub ComesTo : ℕ → Plan ℕ → Advance S b → Type 0
  ComesTo n p (A.On r) = Moves (script_in by) n p r.rest.left (runner_plan by r)
  ComesTo n p (A.Comes e) = LeadsTo n p e

  -- a work that stands at this plan, with so many own steps left, and weighs no more than this
  pub record Stands (n : ℕ) (p : Plan ℕ) (weight : ℕ) (r : Runner S b) : Type 0 where
    pub left : r.rest.left ≡ n
    pub plan : runner_plan by r ≡ p
    pub light : runner_weight by.code r ≤ weight

  -- a work that stands at this plan, or the plan throws
  abbrev pub Enters : ℕ → Plan ℕ → ℕ → Entered S b → Type 0
  Enters n p weight (N.On r) = Stands n p weight r
  Enters n p weight (N.Throws e) = p ≡ throw e

  -- a silent turn or an event that this plan comes to
  pub record Comes (n : ℕ) (p : Plan ℕ) (weight : ℕ) (a : Advance S b) : Type 0 where
    pub goes : ComesTo n p a
    pub took : TookNode n a
    pub light : advance_weight by.code a ≤ weight

  -- an event that this plan comes to
  pub record Leads (n : ℕ) (p : Plan ℕ) (weight : ℕ) (e : Event S b) : Type 0 where
    pub goes : LeadsTo n p e
    pub took : TookStep n e
    pub light : event_weight by.code e ≤ weight

  -- what an expression comes to, with these locals, where these frames wait
  abbrev pub ExprComes : Expr → List (Value ℕ) → Rest S b → Advance S b → Type 0
  ExprComes t env rest a = Comes rest.left (eval (plains by.code.values.items) t env (beneath by rest)) (rest_weight by.code rest + weight t) a
