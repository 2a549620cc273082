use Rattle.seq_table.proofs.WrittenMadeScript.{made_script_is_written}
use Rattle.seq_table.proofs.written_made_script.Goals as goal

pub returns : goal.returns
returns c = made_script_is_written
