use Rattle.seq_meaning.proofs.TrailsTrue.{true_so}
use Rattle.seq_meaning.proofs.law_trail_is_true.Goals as goal

pub returns : goal.returns
returns c = λ rules program limit e defs task n p asked mades of t h g. true_so rules program limit of t h g
