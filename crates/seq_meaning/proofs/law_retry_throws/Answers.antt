use Rattle.seq_meaning.proofs.Twinned.{retry_throws}
use Rattle.seq_meaning.proofs.law_retry_throws.Goals as goal

pub returns : goal.returns
returns c = λ rules renames program limit e n w v a ms x of t r p g. retry_throws rules program limit renames of t r p g
