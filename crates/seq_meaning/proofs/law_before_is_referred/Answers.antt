use Rattle.seq_meaning.proofs.Referring.{as_many, kept_is_seen}
use Rattle.seq_meaning.proofs.law_before_is_referred.Goals as goal

pub returns : goal.returns
returns c = λ rules program limit k defs b. (as_many rules program limit b, kept_is_seen rules program limit b)
