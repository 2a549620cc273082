use Rattle.seq_lawful.proofs.RestAnswers.{form_gives}
use Rattle.seq_lawful.proofs.law_form_gives.Goals as goal

pub returns : goal.returns
returns c = λ rules program limit a law. form_gives rules program limit a law
