use Rattle.cljseq.proofs.OneAnswer.{one_answer}
use Rattle.cljseq.proofs.laws.law_one_answer.Goals as goal

pub returns : goal.returns
returns c = one_answer
