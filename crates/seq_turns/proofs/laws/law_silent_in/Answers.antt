use Rattle.seq_turns.proofs.Transport.{silent_in}
use Rattle.seq_turns.proofs.laws.law_silent_in.Goals as goal

pub returns : goal.returns
returns c = λ own rounds all same p q s. silent_in own rounds all same s
