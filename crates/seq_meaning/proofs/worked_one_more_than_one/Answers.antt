use Rattle.seq_meaning.proofs.Worked.{one_more_than_one_is_two}
use Rattle.seq_meaning.proofs.worked_one_more_than_one.Goals as goal

pub returns : goal.returns
returns c = one_more_than_one_is_two
