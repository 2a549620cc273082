-- Stages with states that were kept.
use Rattle.std.specs.Prelude.{◌≡◌, ℕ, Bool, true, false, List, [], ◌∷◌, ◌++◌}
use Rattle.seq_values.specs.Model as M
use Rattle.seq_values.specs.Sight.{Kept}
use Rattle.seq_values.specs.WellFormedTerms.{are_states}
use Rattle.seq_plan.specs.Keeping.{kept_of}
use Rattle.seq_plan.specs.WellFormed.{sight, sights}
use Rattle.stage_rows.specs.Table.{replaced}
use Rattle.xf_stages.specs.Left.{stage_value, state_value, stages_stand, states_stand}
use Rattle.xf_stages.specs.declared.state.Stage.{Stage}
use Rattle.xf_stages.specs.declared.state.Stage.TheVariants as S

abbrev pub is_truth : M.Value ℕ → Bool
is_truth (M.bool b) = true
is_truth _ = false

-- whether a stage keeps a state
abbrev pub keeps_some : Stage → Bool
keeps_some (S.Applies u f) = false
keeps_some S.Cat = false
keeps_some _ = true

-- a value that a stage may keep
abbrev pub FitsState : Stage → M.Value ℕ → Type 0
FitsState s v = are_states (kept_of (stage_value s)) (sight v ∷ []) ≡ true

-- the same stage with this state
pub record HasState (s : Stage) (v : M.Value ℕ) (t : Stage) : Type 0 where
  pub stage : stage_value t ≡ stage_value s
  pub state : state_value t ≡ v

-- values that begin with the state of a stage, where it keeps one
pub record FitsNext (s : Stage) (vs : List (M.Value ℕ)) : Type 0 where
  pub more : List Kept
  pub fit : are_states (kept_of (stage_value s) ++ more) (sights (M.values vs)) ≡ true

-- the same stage with its state, and the values after it
pub record Restores (s : Stage) (vs : List (M.Value ℕ)) (t : Stage) (rest : List (M.Value ℕ)) : Type 0 where
  pub stage : stage_value t ≡ stage_value s
  pub state : (news : List (M.Value ℕ)) → replaced (state_value s ∷ news) vs ≡ state_value t ∷ replaced news rest
  pub fit : (more : List Kept) → are_states (kept_of (stage_value s) ++ more) (sights (M.values vs)) ≡ true → are_states more (sights (M.values rest)) ≡ true

-- the same stages with their states
pub record RestoresAll (ss : List Stage) (vs : List (M.Value ℕ)) (ts : List Stage) : Type 0 where
  pub stages : stages_stand ts ≡ stages_stand ss
  pub states : states_stand ts ≡ replaced (states_stand ss) vs
