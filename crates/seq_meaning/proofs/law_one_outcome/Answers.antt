use Rattle.seq_meaning.proofs.Once.{one_gives}
use Rattle.seq_meaning.proofs.law_one_outcome.Goals as goal

pub returns : goal.returns
returns c = λ rules program limit e o p g h. one_gives rules program limit g h
