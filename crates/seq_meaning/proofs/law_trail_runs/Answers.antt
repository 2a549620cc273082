use Rattle.seq_meaning.proofs.Trails.{trails}
use Rattle.seq_meaning.proofs.law_trail_runs.Goals as goal

pub returns : goal.returns
returns c = λ script limit whole n p asked mades t cell_of h. trails script cell_of limit whole n p asked mades t h
