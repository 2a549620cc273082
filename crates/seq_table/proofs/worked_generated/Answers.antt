use Rattle.seq_table.proofs.GeneratedOne.{one_generated}
use Rattle.seq_table.proofs.worked_generated.Goals as goal

pub returns : goal.returns
returns c = one_generated
