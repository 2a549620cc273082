use Rattle.seq_table.proofs.WorkedNoneKept.{none_kept_holds}
use Rattle.seq_table.proofs.worked_none_kept.Goals as goal

pub returns : goal.returns
returns c = none_kept_holds
