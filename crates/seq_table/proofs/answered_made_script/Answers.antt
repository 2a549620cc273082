use Rattle.seq_table.proofs.MadeAnswer.{made_script_answered}
use Rattle.seq_table.proofs.answered_made_script.Goals as goal

pub returns : goal.returns
returns c = made_script_answered
