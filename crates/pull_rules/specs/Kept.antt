-- What a pull's transducer is seen as.
use Rattle.std.specs.Prelude.{◌≡◌, ℕ, List, Some}
use Rattle.seq_values.specs.Model as M
use Rattle.seq_plan.specs.WellFormed.{sight}
use Rattle.xf_stages.specs.Opening.{seen_kept, all_kept}

-- the transducer is seen as what these stages keep between two inputs
abbrev pub IsThrough : M.Value ℕ → List (M.Value ℕ) → Type 0
IsThrough xf stages = seen_kept (sight xf) ≡ Some (all_kept stages)
