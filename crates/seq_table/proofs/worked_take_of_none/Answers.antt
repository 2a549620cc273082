use Rattle.seq_table.proofs.WorkedTakeOfNone.{take_of_none_holds}
use Rattle.seq_table.proofs.worked_take_of_none.Goals as goal

pub returns : goal.returns
returns c = take_of_none_holds
