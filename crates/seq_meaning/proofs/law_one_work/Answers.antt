use Rattle.seq_meaning.proofs.Once.{one_of}
use Rattle.seq_meaning.proofs.law_one_work.Goals as goal

pub returns : goal.returns
returns c = λ rules program limit e w v g h. one_of rules program limit g h
