-- The layers of a collection that is folded.
use Rattle.std.specs.Prelude.{◌≡◌, ◌<◌, ◌≤◌, ◌++◌, ℕ, true, false, [], ◌∷◌, length, Option, Some, None}
use Rattle.seq_values.specs.Depth.{depth}
use Rattle.seq_values.specs.Model as M
use Rattle.seq_values.specs.Plain.{plain, plains}
use Rattle.seq_values.specs.WellFormed.{sight_of}
use Rattle.seq_values.specs.WellFormedTerms.{is_fold_stage}
use Rattle.seq_values.specs.declared.value.Value.{Value}
use Rattle.seq_values.specs.declared.words.FolderKind.{FolderKind}
use Rattle.seq_values.specs.declared.words.FolderKind.TheVariants as F
use Rattle.seq_values.specs.declared.words.XfKind.{XfKind}
use Rattle.seq_values.specs.declared.words.XfKind.TheVariants as X
use Rattle.fold_rows.specs.Table.{bottom, reducer_stages, can_split, items_of}
use Rattle.reducer_values.specs.declared.shapes.Foldable.{Foldable}
use Rattle.reducer_values.specs.declared.shapes.Layer.{Layer}
use Rattle.reducer_values.specs.declared.shapes.Layer.TheVariants as L

-- the transducer's stage that acts as a reducer value does that may be split
abbrev pub stage_kind : FolderKind → Option XfKind
stage_kind F.Map = Some X.Map
stage_kind F.Filter = Some X.Filter
stage_kind F.Remove = Some X.Remove
stage_kind F.Mapcat = Some X.Mapcat
stage_kind F.Take = None
stage_kind F.TakeWhile = None

-- a reducer value that may be split where what is under it may
pub record Peels (outer : Value) (stage inner : Value) : Type 0 where
  pub stages_are : reducer_stages (plain outer) ≡ reducer_stages (plain inner) ++ plain stage ∷ []
  pub bottom_is : bottom (plain outer) ≡ bottom (plain inner)
  pub splits_as : can_split (plain outer) ≡ can_split (plain inner)
  pub fits : is_fold_stage (sight_of stage) ≡ true
  pub less : depth inner < depth outer

-- what the outermost layer of a collection is
abbrev pub IsLayer : Value → Layer → Type 0
IsLayer v (L.Items xs) = plain v ≡ M.vector (M.values (plains xs.items))
IsLayer v (L.Stage stage inner) = Peels v stage.value inner.value
IsLayer v L.Whole = can_split (plain v) ≡ false

-- the items at the bottom of a collection that can be split, and its stages
pub record IsFoldable (v : M.Value ℕ) (f : Foldable) : Type 0 where
  pub splits : can_split v ≡ true
  pub stages_are : plains f.stages.items ≡ reducer_stages v
  pub items_are : plains f.items.items ≡ items_of (bottom v)
  pub few : length f.stages.items ≤ 256
