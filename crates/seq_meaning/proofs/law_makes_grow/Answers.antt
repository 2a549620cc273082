use Rattle.seq_meaning.proofs.Once.{makes-grow}
use Rattle.seq_meaning.proofs.law_makes_grow.Goals as goal

pub returns : goal.returns
returns c = λ rules program limit e w a more of t. makes-grow rules program limit a more of t
