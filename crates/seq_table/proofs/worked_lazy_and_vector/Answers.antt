use Rattle.seq_table.proofs.WorkedLazyAndVector.{lazy_and_vector_holds}
use Rattle.seq_table.proofs.worked_lazy_and_vector.Goals as goal

pub returns : goal.returns
returns c = lazy_and_vector_holds
