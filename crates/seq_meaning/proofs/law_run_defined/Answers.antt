use Rattle.seq_meaning.proofs.Once.{run-defined}
use Rattle.seq_meaning.proofs.law_run_defined.Goals as goal

pub returns : goal.returns
returns c = λ rules program limit e w a. run-defined rules program limit e w a
