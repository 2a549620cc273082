-- How it is found whether a composition is a transducer with a stage.
use Rattle.std.specs.Prelude.{◌≡◌, ◌<◌, ℕ, ◌+◌, Bool, true, false, ◌&&◌, ◌||◌, List, [], ◌∷◌, ◌++◌, length, drop, Option, Some, None}
use Rattle.seq_values.specs.Model as M
use Rattle.seq_values.specs.Model.{◌&◌}
use Rattle.seq_values.specs.Plain.{plains}
use Rattle.seq_values.specs.declared.words.Target.TheVariants as T
use Rattle.seq_plan.specs.Stages.{is_transducer, is_some_stage, stages_of}
use Rattle.core_rules.specs.declared.state.Frame.{Frame}
use Rattle.core_rules.specs.declared.state.Opening.{Opening}
use Rattle.core_rules.specs.declared.state.Opening.TheVariants as P
use Rattle.core_rules.specs.declared.state.Search.{Search}

-- what a value is as a transducer: one with a stage, a composition, one without a stage, or none
abbrev pub IsOpening : M.Value ℕ → Opening → Type 0
IsOpening v P.Stage = (is_transducer v ≡ true) × (is_some_stage (stages_of v) ≡ true)
IsOpening v (P.Inner fs) = v ≡ M.function T.Comp (M.values (plains fs.items))
IsOpening v P.Nothing = (is_transducer v ≡ true) × (is_some_stage (stages_of v) ≡ false)
IsOpening v P.Refused = is_transducer v ≡ false

-- whether these values are transducers, and one of them has a stage, or one was found before
abbrev pub finds : Bool → List (M.Value ℕ) → Bool
finds found [] = found
finds found (v ∷ vs) = is_transducer v && finds (found || is_some_stage (stages_of v)) vs

-- how much there is to look at in a value: more than in all that is bound to it, and one more
abbrev mutual
  pub extent : M.Value ℕ → ℕ
  extent (M.function t bound) = extents bound + 2
  extent _ = 1

  pub extents : M.Values ℕ → ℕ
  extents M.no_values = 0
  extents (x & xs) = extent x + extents xs

abbrev pub extent_of_each : List (M.Value ℕ) → ℕ
extent_of_each [] = 0
extent_of_each (v ∷ vs) = extent v + extent_of_each vs

-- what is still to be looked at, before some more: the last frame comes first
abbrev pub pending : List Frame → List (M.Value ℕ) → List (M.Value ℕ)
pending [] more = more
pending (f ∷ fs) more = pending fs (plains (drop f.at f.items.items) ++ more)

abbrev pub pending_in : Search → List (M.Value ℕ)
pending_in s = pending s.frames.items []

abbrev pub search_weight : Search → ℕ
search_weight s = extent_of_each (pending_in s) + length s.frames.items

-- these values were to be looked at, and this is what is left of that
pub record Steps (n : ℕ) (found : Bool) (values : List (M.Value ℕ)) (after : Search) : Type 0 where
  pub same : finds after.found (pending_in after) ≡ finds found values
  pub lighter : search_weight after < extent_of_each values + n

abbrev pub StepsTo : ℕ → Bool → List (M.Value ℕ) → Option Search → Type 0
StepsTo n found values None = finds found values ≡ false
StepsTo n found values (Some after) = Steps n found values after
