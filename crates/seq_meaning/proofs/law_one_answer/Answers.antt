use Rattle.seq_meaning.proofs.Once.{same_length}
use Rattle.seq_meaning.proofs.law_one_answer.Goals as goal

pub returns : goal.returns
returns c = λ rules program limit e a b g h p. same_length rules program limit g h p
