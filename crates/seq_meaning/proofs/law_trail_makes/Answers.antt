use Rattle.seq_meaning.proofs.Makes.{trail_makes}
use Rattle.seq_meaning.proofs.law_trail_makes.Goals as goal

pub returns : goal.returns
returns c = λ script limit whole n kind t k asked mades h cell_of calls. trail_makes script cell_of limit whole n kind t k asked mades h calls
