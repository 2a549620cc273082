-- The stages of reducer values.
use Rattle.std.specs.Prelude.{◌≡◌, ◌<◌, ℕ, Bool, true, false, List, [], ◌∷◌, ◌++◌, reverse, Option, Some, None}
use Rattle.fold_rows.specs.Table.{bottom, reducer_stages}
use Rattle.seq_values.specs.Model as M
use Rattle.seq_values.specs.Plain.{plain}
use Rattle.seq_values.specs.declared.words.FolderKind.{FolderKind}
use Rattle.seq_values.specs.declared.words.Target.TheVariants as T
use Rattle.seq_plan.specs.Stages.{begins_with}
use Rattle.xf_stages.specs.Left.{stage_value, state_value, stages_stand}
use Rattle.xf_stages.specs.Parts.{FreshStages, extent}
use Rattle.xf_stages.specs.declared.state.Folded.{Folded}
use Rattle.xf_stages.specs.declared.state.Folded.TheVariants as D
use Rattle.xf_stages.specs.declared.state.Stage.{Stage}

-- the kind of a reducer value
abbrev pub folder_in : M.Value ℕ → Option FolderKind
folder_in (M.function (T.Folder kind) bound) = Some kind
folder_in _ = None

-- the outermost stage of a reducer value, and its collection
pub record Folds (v : M.Value ℕ) (s : Stage) (c : M.Value ℕ) : Type 0 where
  pub stages : reducer_stages v ≡ reducer_stages c ++ stage_value s ∷ []
  pub bottom : bottom v ≡ bottom c
  pub begin : state_value s ≡ begins_with (stage_value s)
  pub smaller : extent c < extent v

abbrev pub IsFolded : M.Value ℕ → Folded → Type 0
IsFolded v (D.Reducer s c) = Folds v s (plain c.value)
IsFolded v (D.Bottom w) = (plain w.value ≡ v) × (folder_in v ≡ None)

-- these are the stages of a reducer value, the outermost one first, and this is the collection at the bottom
pub record Reduces (v : M.Value ℕ) (ss : List Stage) (c : M.Value ℕ) : Type 0 where
  pub stages : reducer_stages v ≡ reverse (stages_stand ss)
  pub bottom : c ≡ bottom v
  pub begin : FreshStages ss

-- stages that stand for these values, each with the state with which it begins
pub record BeginAll (vs : List (M.Value ℕ)) (ss : List Stage) : Type 0 where
  pub stages : stages_stand ss ≡ vs
  pub begin : FreshStages ss
