use Rattle.seq_meaning.proofs.Once.{one_part}
use Rattle.seq_meaning.proofs.law_one_part.Goals as goal

pub returns : goal.returns
returns c = λ rules program limit n kind other w v g h. one_part rules program limit g h
