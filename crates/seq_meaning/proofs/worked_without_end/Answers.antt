use Rattle.seq_meaning.proofs.WorkedEndless.{without_end_throws}
use Rattle.seq_meaning.proofs.worked_without_end.Goals as goal

pub returns : goal.returns
returns c = without_end_throws
