-- The true answers that an evaluation's trail has come by, and which ask each of them came to.
use Rattle.std.specs.Prelude.{◌≡◌, ℕ, List, ◌∷◌, ◌++◌}
use Rattle.seq_values.specs.Model.{Outcome}
use Rattle.clj_script.specs.Trees.{Program}
use Rattle.seq_plan.specs.Plan.{Rules}
use Rattle.seq_meaning.specs.Counts.{IsIn}
use Rattle.seq_meaning.specs.Gives.{Work, in_order, run, True}
use Rattle.seq_meaning.specs.Names.{Name}
use Rattle.seq_meaning.specs.Trail.{answers_of}
use Rattle.seq_meaning.specs.Walk.{Made, needs}

module _ (rules : Rules Name) (program : Program) (limit : ℕ) (e : Name) (w : Work) where
  -- after these answers the run needs a part, and this answer to it stands in the trail
  pub data AskedHere (asked : List (Name × Outcome Name)) (o : Outcome Name) (before : List (Outcome Name)) : Type 0 where
    asked_here : {n : Name} {ms : List (Made Name)} → run rules program limit e w before ≡ needs n ms → IsIn (n, o) asked → AskedHere asked o before

  pub record TrueSo (asked : List (Name × Outcome Name)) : Type 0 where
    pub answers : List (Outcome Name)
    pub all_true : True rules program limit e answers
    -- they are those of the trail
    pub order : in_order answers ≡ answers_of asked
    pub each : (later : List (Outcome Name)) (o : Outcome Name) (before : List (Outcome Name)) → answers ≡ later ++ o ∷ before → AskedHere asked o before
