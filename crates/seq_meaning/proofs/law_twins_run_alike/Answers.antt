use Rattle.seq_meaning.proofs.Twinned.{twins_run}
use Rattle.seq_meaning.proofs.law_twins_run_alike.Goals as goal

pub returns : goal.returns
returns c = λ rules renames program limit p q e f r w v h a b k. twins_run rules program limit renames p q r h k
