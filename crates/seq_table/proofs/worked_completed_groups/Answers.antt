use Rattle.seq_table.proofs.WorkedCompletedGroups.{completed_groups_holds}
use Rattle.seq_table.proofs.worked_completed_groups.Goals as goal

pub returns : goal.returns
returns c = completed_groups_holds
