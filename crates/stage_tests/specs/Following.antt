-- The stages to which turns lead.
use Rattle.std.specs.Prelude.{◌≡◌, ℕ, List}
use Rattle.seq_values.specs.Model as M
use Rattle.xf_stages.specs.Left.{RestsWith, stages_in}
use Rattle.xf_stages.specs.declared.state.Stages.{Stages}
use Rattle.xf_stages.specs.declared.state.StageTurn.{StageTurn}

-- the second turn leads to the stages to which the first one does
abbrev pub Follows : StageTurn → StageTurn → Type 0
Follows t u = (stages : List (M.Value ℕ)) → RestsWith stages t → RestsWith stages u

-- a turn leads to these stages
abbrev pub LeadsTo : StageTurn → Stages → Type 0
LeadsTo t s = (stages : List (M.Value ℕ)) → RestsWith stages t → stages_in s ≡ stages
