-- What a pull's transducer is seen as, at a turn of its stages.
use Rattle.std.specs.Prelude.{ℕ}
use Rattle.seq_values.specs.Model as M
use Rattle.xf_stages.specs.Left.{stages_in}
use Rattle.pull_rules.specs.Kept.{IsThrough}
use Rattle.pull_rules.specs.Reducing.{waiting_stages}
use Rattle.pull_rules.specs.declared.flow.GatheringTurn.{GatheringTurn}
use Rattle.pull_rules.specs.declared.flow.GatheringTurn.TheVariants as GT

-- the transducer is seen as what the stages keep that will stand once the input is through
abbrev pub TurnThrough : M.Value ℕ → GatheringTurn → Type 0
TurnThrough xf (GT.Asks n) = IsThrough xf (waiting_stages n.state.waiting)
TurnThrough xf (GT.Throw why) = Unit {0}
TurnThrough xf (GT.Rest s outputs) = IsThrough xf (stages_in s)
