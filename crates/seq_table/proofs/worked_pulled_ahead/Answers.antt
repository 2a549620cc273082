use Rattle.seq_table.proofs.WorkedPulledAhead.{pulled_ahead_holds}
use Rattle.seq_table.proofs.worked_pulled_ahead.Goals as goal

pub returns : goal.returns
returns c = pulled_ahead_holds
