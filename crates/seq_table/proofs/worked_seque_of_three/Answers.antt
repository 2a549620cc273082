use Rattle.seq_table.proofs.WorkedSequeOfThree.{seque_of_three_holds}
use Rattle.seq_table.proofs.worked_seque_of_three.Goals as goal

pub returns : goal.returns
returns c = seque_of_three_holds
