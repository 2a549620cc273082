use Rattle.seq_table.proofs.WrittenFirstOfMap.{first_of_map_is_written}
use Rattle.seq_table.proofs.written_first_of_map.Goals as goal

pub returns : goal.returns
returns c = first_of_map_is_written
