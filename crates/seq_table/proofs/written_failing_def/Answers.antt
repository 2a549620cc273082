use Rattle.seq_table.proofs.WrittenFailingDef.{failing_def_is_written}
use Rattle.seq_table.proofs.written_failing_def.Goals as goal

pub returns : goal.returns
returns c = failing_def_is_written
