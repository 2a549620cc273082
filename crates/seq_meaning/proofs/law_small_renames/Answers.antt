use Rattle.seq_meaning.proofs.SmallAlike.{like-small}
use Rattle.seq_meaning.proofs.law_small_renames.Goals as goal

pub returns : goal.returns
returns c = (λ p q. like-small, λ test. like-small)
