use Rattle.seq_table.proofs.WorkedPlainCall.{plain_call_holds}
use Rattle.seq_table.proofs.worked_plain_call.Goals as goal

pub returns : goal.returns
returns c = plain_call_holds
