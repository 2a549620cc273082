use Rattle.seq_table.proofs.WorkedDropped.{dropped_holds}
use Rattle.seq_table.proofs.worked_dropped.Goals as goal

pub returns : goal.returns
returns c = dropped_holds
