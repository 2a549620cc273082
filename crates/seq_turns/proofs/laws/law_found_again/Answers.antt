use Rattle.seq_turns.proofs.Transport.{found_again}
use Rattle.seq_turns.proofs.laws.law_found_again.Goals as goal

pub returns : goal.returns
returns c = λ v w e. found_again v e
