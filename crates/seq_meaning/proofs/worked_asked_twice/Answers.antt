use Rattle.seq_meaning.proofs.WorkedTwice.{asked_twice_fails_twice}
use Rattle.seq_meaning.proofs.worked_asked_twice.Goals as goal

pub returns : goal.returns
returns c = asked_twice_fails_twice
