use Rattle.seq_meaning.proofs.Trails.{trail_passes}
use Rattle.seq_meaning.proofs.law_trail_passes.Goals as goal

pub returns : goal.returns
returns c = λ script limit whole n p q asked mades t s. trail_passes script (λ j. j) t s
