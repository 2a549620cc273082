use Rattle.seq_table.proofs.WorkedFailingChunk.{failing_chunk_holds}
use Rattle.seq_table.proofs.worked_failing_chunk.Goals as goal

pub returns : goal.returns
returns c = failing_chunk_holds
