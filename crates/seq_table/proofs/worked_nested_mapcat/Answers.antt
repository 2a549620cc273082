use Rattle.seq_table.proofs.WorkedNestedMapcat.{nested_mapcat_holds}
use Rattle.seq_table.proofs.worked_nested_mapcat.Goals as goal

pub returns : goal.returns
returns c = nested_mapcat_holds
