use Rattle.seq_table.proofs.WorkedFirstOfIterate.{first_of_iterate_holds}
use Rattle.seq_table.proofs.worked_first_of_iterate.Goals as goal

pub returns : goal.returns
returns c = first_of_iterate_holds
