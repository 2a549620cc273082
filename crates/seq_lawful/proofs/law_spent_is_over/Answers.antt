use Rattle.seq_lawful.proofs.RestAnswers.{spent_is_over}
use Rattle.seq_lawful.proofs.law_spent_is_over.Goals as goal

pub returns : goal.returns
returns c = λ rules program limit a law. spent_is_over rules program limit a law
