use Rattle.seq_values.proofs.DepthLemmas.{both}
use Rattle.seq_turns.specs.Turning.{arrives}
use Rattle.seq_turns.proofs.ways.calls.Goals as goal

pub returns : goal.returns
returns g c = record { goes = arrives; step = tt; waits = c.requires; well = both _ _ c.args.function.well c.args.args.well }
