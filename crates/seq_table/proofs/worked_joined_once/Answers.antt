use Rattle.seq_table.proofs.WorkedJoinedOnce.{joined_once_holds}
use Rattle.seq_table.proofs.worked_joined_once.Goals as goal

pub returns : goal.returns
returns c = joined_once_holds
