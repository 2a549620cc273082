use Rattle.seq_table.proofs.WorkedFirstOfMap.{first_of_map_holds}
use Rattle.seq_table.proofs.worked_first_of_map.Goals as goal

pub returns : goal.returns
returns c = first_of_map_holds
