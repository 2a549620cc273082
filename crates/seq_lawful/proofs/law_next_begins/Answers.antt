use Rattle.seq_lawful.proofs.NextForm.{next_begins}
use Rattle.seq_lawful.proofs.law_next_begins.Goals as goal

pub returns : goal.returns
returns c = λ numeric rules program limit a law. next_begins numeric rules program limit a law
