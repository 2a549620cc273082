-- Where a work of the evaluator stands on its run.
use Rattle.std.specs.Prelude.{◌≡◌, ℕ, suc}
use Rattle.clj_script.specs.Seen.{seen}
use Rattle.seq_values.specs.Plain.{plain, plains}
use Rattle.seq_plan.specs.Plan.{Plan, give, throw}
use Rattle.seq_meaning.specs.Referred.{referred}
use Rattle.eval_frames.specs.Frames.{Ground, runner_plan, asker_plan, makes_plan}
use Rattle.eval_frames.specs.declared.state.Code.{Code}
use Rattle.eval_frames.specs.declared.state.Asker.{Asker}
use Rattle.eval_frames.specs.declared.state.Runner.{Runner}
use Rattle.eval_frames.specs.declared.state.Event.{Event}
use Rattle.eval_frames.specs.declared.state.Event.TheVariants as E
use Rattle.cell_book.specs.Account.{Duty}
use Rattle.cell_book.specs.Glimpses.{Glimpse}
use Rattle.lawful_works.specs.Basis.{Basis, RunsTo}

-- the values that the code has are those that the work may refer to
abbrev pub GoesBy : Code → Duty → Type 0
GoesBy code w = plains code.values.items ≡ referred (seen code.program).tops (plains w.outcomes)

-- what all works of the program go by
abbrev pub basis : {S : Type 0} → Ground S → ℕ → Basis
basis by limit = record { rules = by.table by.code.processors; program = seen by.code.program; limit = limit }

module _ {S : Type 0} {b : _} where
  abbrev pub left_of : Event S b → ℕ
  left_of (E.Went r) = r.rest.left
  left_of (E.Asks a) = suc a.rest.left
  left_of (E.Makes kind t maker rest) = rest.left
  left_of (E.Gives v left) = left
  left_of (E.Throws e left) = left

module _ {S : Type 0} {b : _} (by : Ground S) where
  abbrev pub plan_of : Event S b → Plan ℕ
  plan_of (E.Went r) = runner_plan by r
  plan_of (E.Asks a) = asker_plan by a
  plan_of (E.Makes kind t maker rest) = makes_plan by kind t maker rest
  plan_of (E.Gives v left) = give (plain v.value)
  plan_of (E.Throws e left) = throw e

  module _ (limit : ℕ) (g : Glimpse) (w : Duty) where
    -- the work goes on from there
    abbrev pub RunnerOn : Runner S b → Type 0
    RunnerOn r = RunsTo (basis by limit) g w r.rest.left (runner_plan by r)

    -- it asks, and the own step for that isn't yet taken on its run
    abbrev pub AskerOn : Asker S b → Type 0
    AskerOn a = RunsTo (basis by limit) g w (suc a.rest.left) (asker_plan by a)

    -- it has come to the event
    abbrev pub EventOn : Event S b → Type 0
    EventOn e = RunsTo (basis by limit) g w (left_of e) (plan_of e)
