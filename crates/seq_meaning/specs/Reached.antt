-- How far a walk has come: the steps left, the plan left, the number of the next make, the makes so far and the answers so far.
use Rattle.std.specs.Prelude.{◌≡◌, ℕ, List, [], ◌∷◌, ◌++◌}
use Rattle.seq_values.specs.Model.{Outcome}
use Rattle.seq_plan.specs.Plan.{Plan}
use Rattle.seq_meaning.specs.Evaluates.{Script}
use Rattle.seq_meaning.specs.Walk.{Made, Run, also, walk}

-- a run with makes before it
abbrev pub also_all : {C : Type 0} → List (Made C) → Run C → Run C
also_all [] r = r
also_all (m ∷ ms) r = also m (also_all ms r)

-- whatever answers come, the whole walk is what was made and the walk of the plan that is left
pub record Reached {C : Type 0} (script : Script C) (cell_of : ℕ → C) (limit : ℕ) (whole : Plan C) (left : ℕ) (plan : Plan C) (next : ℕ) (mades : List (Made C)) (answers : List (Outcome C)) : Type 0 where
  pub goes_on : (os : List (Outcome C)) → walk script cell_of limit whole 1 (answers ++ os) ≡ also_all mades (walk script cell_of left plan next os)
