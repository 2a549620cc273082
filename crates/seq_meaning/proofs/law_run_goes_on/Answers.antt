use Rattle.seq_meaning.proofs.Once.{run-more}
use Rattle.seq_meaning.proofs.law_run_goes_on.Goals as goal

pub returns : goal.returns
returns c = λ rules program limit e w a o. run-more rules program limit e w a o
