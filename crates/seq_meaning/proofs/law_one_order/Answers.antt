use Rattle.seq_meaning.proofs.Once.{compared}
use Rattle.seq_meaning.proofs.law_one_order.Goals as goal

pub returns : goal.returns
returns c = λ rules program limit e a b g h. (compared rules program limit g h)
