use Rattle.seq_turns.specs.Turning.{arrives}
use Rattle.seq_turns.proofs.ways.gives.Goals as goal

pub returns : goal.returns
returns g c = record { goes = arrives; step = tt; waits = c.requires; well = c.args.value.well }
