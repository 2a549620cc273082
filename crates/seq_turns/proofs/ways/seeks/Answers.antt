use Rattle.seq_turns.specs.Turning.{arrives}
use Rattle.seq_turns.proofs.ways.seeks.Goals as goal

pub returns : goal.returns
returns g c = record { goes = arrives; step = c.requires.asks; waits = c.requires.waits; well = c.args.value.well }
