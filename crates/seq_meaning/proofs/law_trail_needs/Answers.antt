use Rattle.seq_meaning.proofs.Trails.{trail_needs}
use Rattle.seq_meaning.proofs.law_trail_needs.Goals as goal

pub returns : goal.returns
returns c = λ script limit whole n c k asked mades t cell_of h. trail_needs script cell_of limit whole n c k asked mades t h
