-- How the stages of a value are found.
use Rattle.std.specs.Prelude.{◌≡◌, ◌<◌, ℕ, ◌+◌, Bool, true, false, ◌&&◌, List, [], ◌∷◌, ◌++◌, length, drop, Option, Some, None}
use Rattle.seq_values.specs.Model as M
use Rattle.seq_values.specs.Model.{◌&◌}
use Rattle.seq_values.specs.Plain.{plain, plains}
use Rattle.seq_values.specs.declared.words.Target.TheVariants as T
use Rattle.seq_plan.specs.Stages.{begins_with, fresh, is_transducer, stages_of}
use Rattle.xf_stages.specs.Left.{stage_value, state_value, stages_stand, states_stand}
use Rattle.xf_stages.specs.declared.state.Bound.{Bound}
use Rattle.xf_stages.specs.declared.state.Frame.{Frame}
use Rattle.xf_stages.specs.declared.state.Opening.{Opening}
use Rattle.xf_stages.specs.declared.state.Opening.TheVariants as P
use Rattle.xf_stages.specs.declared.state.Stage.{Stage}
use Rattle.xf_stages.specs.declared.state.Work.{Work}

abbrev pub is_function : M.Value ℕ → Bool
is_function (M.function t bound) = true
is_function _ = false

abbrev pub is_integer : M.Value ℕ → Bool
is_integer (M.int n) = true
is_integer _ = false

-- a function taken apart
abbrev pub IsTaken : M.Value ℕ → Option Bound → Type 0
IsTaken v None = is_function v ≡ false
IsTaken v (Some b) = v ≡ M.function b.target (M.values (plains b.items.items))

-- a stage that stands for a value, with the state with which it begins
pub record Begins (v : M.Value ℕ) (s : Stage) : Type 0 where
  pub stage : stage_value s ≡ v
  pub state : state_value s ≡ begins_with v

-- what a value is as a transducer: a stage, a composition, `identity`, or none
pub record IsStage (v : M.Value ℕ) (s : Stage) : Type 0 where
  pub transducer : is_transducer v ≡ true
  pub stages : stages_of v ≡ stage_value s ∷ []
  pub state : state_value s ≡ begins_with (stage_value s)

abbrev pub IsOpening : M.Value ℕ → Opening → Type 0
IsOpening v (P.Stage s) = IsStage v s
IsOpening v (P.Inner fs) = v ≡ M.function T.Comp (M.values (plains fs.items))
IsOpening v P.Nothing = (is_transducer v ≡ true) × (stages_of v ≡ [])
IsOpening v P.Refused = is_transducer v ≡ false

-- ## Compositions

abbrev pub each_transducer : List (M.Value ℕ) → Bool
each_transducer [] = true
each_transducer (v ∷ vs) = is_transducer v && each_transducer vs

abbrev pub stages_of_each : List (M.Value ℕ) → List (M.Value ℕ)
stages_of_each [] = []
stages_of_each (v ∷ vs) = stages_of v ++ stages_of_each vs

-- how much there is to open in a value: more than in all that is bound to it, and one more
abbrev mutual
  pub extent : M.Value ℕ → ℕ
  extent (M.function t bound) = extents bound + 2
  extent _ = 1

  pub extents : M.Values ℕ → ℕ
  extents M.no_values = 0
  extents (x & xs) = extent x + extents xs

abbrev pub extent_of_each : List (M.Value ℕ) → ℕ
extent_of_each [] = 0
extent_of_each (v ∷ vs) = extent v + extent_of_each vs

-- what is still to be opened, before some more: the last frame is opened first
abbrev pub pending : List Frame → List (M.Value ℕ) → List (M.Value ℕ)
pending [] more = more
pending (f ∷ fs) more = pending fs (plains (drop f.at f.items.items) ++ more)

abbrev pub pending_in : Work → List (M.Value ℕ)
pending_in w = pending w.frames.items []

abbrev pub work_weight : Work → ℕ
work_weight w = extent_of_each (pending_in w) + length w.frames.items

-- each stage has the state with which it begins
abbrev pub FreshStages : List Stage → Type 0
FreshStages ss = states_stand ss ≡ fresh (stages_stand ss)

-- values were to be opened, and this is what is left of that
pub record Steps (n : ℕ) (before : Work) (values : List (M.Value ℕ)) (after : Work) : Type 0 where
  pub same : each_transducer (pending_in after) ≡ each_transducer values
  pub stages : stages_stand after.stages.items ++ stages_of_each (pending_in after) ≡ stages_stand before.stages.items ++ stages_of_each values
  pub begin : FreshStages before.stages.items → FreshStages after.stages.items
  pub lighter : work_weight after < extent_of_each values + n

abbrev pub StepsTo : ℕ → Work → List (M.Value ℕ) → Option Work → Type 0
StepsTo n before values None = each_transducer values ≡ false
StepsTo n before values (Some after) = Steps n before values after

-- the stages of all that was to be opened, after those that were there
pub record OpensAll (before : Work) (ss : List Stage) : Type 0 where
  pub transducers : each_transducer (pending_in before) ≡ true
  pub stages : stages_stand ss ≡ stages_stand before.stages.items ++ stages_of_each (pending_in before)
  pub begin : FreshStages before.stages.items → FreshStages ss
