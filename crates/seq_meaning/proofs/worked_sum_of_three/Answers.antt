use Rattle.seq_meaning.proofs.WorkedSum.{sum_of_three_is_six}
use Rattle.seq_meaning.proofs.worked_sum_of_three.Goals as goal

pub returns : goal.returns
returns c = sum_of_three_is_six
