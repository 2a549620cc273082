use Rattle.seq_table.proofs.WorkedNestedValue.{nested_value_holds}
use Rattle.seq_table.proofs.worked_nested_value.Goals as goal

pub returns : goal.returns
returns c = nested_value_holds
