use Rattle.seq_meaning.proofs.Trails.{trail_throws}
use Rattle.seq_meaning.proofs.law_trail_throws.Goals as goal

pub returns : goal.returns
returns c = λ script limit whole n x asked mades t cell_of h. trail_throws script cell_of limit whole n x asked mades t h
