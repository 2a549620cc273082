use Rattle.seq_table.proofs.WorkedNeverAsked.{never_asked_holds}
use Rattle.seq_table.proofs.worked_never_asked.Goals as goal

pub returns : goal.returns
returns c = never_asked_holds
