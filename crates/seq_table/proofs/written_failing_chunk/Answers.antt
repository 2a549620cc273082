use Rattle.seq_table.proofs.WrittenFailingChunk.{failing_chunk_is_written}
use Rattle.seq_table.proofs.written_failing_chunk.Goals as goal

pub returns : goal.returns
returns c = failing_chunk_is_written
