use Rattle.seq_meaning.proofs.Trails.{trail_gives}
use Rattle.seq_meaning.proofs.law_trail_gives.Goals as goal

pub returns : goal.returns
returns c = λ script limit whole n v asked mades t cell_of h. trail_gives script cell_of limit whole n v asked mades t h
