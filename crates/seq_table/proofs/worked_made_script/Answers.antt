use Rattle.seq_table.proofs.WorkedMadeScript.{made_script_holds}
use Rattle.seq_table.proofs.worked_made_script.Goals as goal

pub returns : goal.returns
returns c = made_script_holds
