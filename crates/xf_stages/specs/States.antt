-- States that stages keep, after other values.
use Rattle.std.specs.Prelude.{◌≡◌, ◌<◌, ℕ, true, false, List, [], ◌∷◌, ◌++◌, length, slice_index_or, Option, Some, None}
use Rattle.seq_values.specs.Model as M
use Rattle.seq_values.specs.Plain.{plain, plains}
use Rattle.seq_values.specs.Sight.{Kept}
use Rattle.seq_values.specs.WellFormedTerms.{is_state, are_states}
use Rattle.seq_values.specs.declared.value.Value.{Value}
use Rattle.seq_plan.specs.Keeping.{kept_of}
use Rattle.seq_plan.specs.Nodes.{is_nil, longest}
use Rattle.seq_plan.specs.WellFormed.{sight, sights}
use Rattle.seq_turns.specs.declared.made.Grown.{Grown}
use Rattle.seq_turns.specs.declared.made.Grown.TheVariants as G
use Rattle.seq_turns.specs.declared.proper.Proper.{Proper}
use Rattle.stage_rows.specs.Table.{kept}
use Rattle.xf_stages.specs.Left.{stage_value, state_value, stages_stand, states_stand}
use Rattle.xf_stages.specs.Opening.{all_kept}
use Rattle.xf_stages.specs.declared.state.Stage.{Stage}
use Rattle.xf_stages.specs.declared.state.Stage.TheVariants as S

-- a state that is kept
pub record IsKept (s : Stage) (v : M.Value ℕ) : Type 0 where
  pub kept : Kept
  pub value : v ≡ state_value s
  pub some : is_nil (state_value s) ≡ false
  pub keeps : kept_of (stage_value s) ≡ kept ∷ []
  pub fits : is_state kept (sight v) ≡ true

abbrev pub IsStateOf : Stage → Option Proper → Type 0
IsStateOf s None = (state_value s ≡ M.nil) × (kept_of (stage_value s) ≡ [])
IsStateOf s (Some v) = IsKept s (plain v.value)

-- values of which the last ones are the states that these stages keep
pub record Added (ss : List Stage) (before after : List (M.Value ℕ)) : Type 0 where
  pub states : List (M.Value ℕ)
  pub all : after ≡ before ++ states
  pub kept_states : kept (states_stand ss) ≡ states
  pub fit : are_states (all_kept (stages_stand ss)) (sights (M.values states)) ≡ true

abbrev pub AddsAll : List Stage → List Value → Grown → Type 0
AddsAll ss before (G.All all) = Added ss (plains before) (plains all.items.items)
AddsAll ss before G.TooMany = longest < length (plains before ++ kept (states_stand ss))

abbrev pub Adds : Stage → List Value → Grown → Type 0
Adds s before g = AddsAll (s ∷ []) before g

-- the same of the stage at a place
abbrev pub AddsAt : List Stage → ℕ → List Value → Grown → Type 0
AddsAt ss at before g = Adds (slice_index_or ss at S.Cat) before g
