use Rattle.seq_table.proofs.WorkedRestAndNext.{rest_and_next_holds}
use Rattle.seq_table.proofs.worked_rest_and_next.Goals as goal

pub returns : goal.returns
returns c = rest_and_next_holds
