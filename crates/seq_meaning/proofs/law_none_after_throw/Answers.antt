use Rattle.seq_meaning.proofs.Once.{none_after}
use Rattle.seq_meaning.proofs.law_none_after_throw.Goals as goal

pub returns : goal.returns
returns c = λ rules program limit e w a more x n ms. none_after rules program limit e w a more x n ms
