use Rattle.seq_values.proofs.WellFormedLemmas.{chunk_each}
use Rattle.seq_turns.proofs.chunks.chunk_of_items.Goals as goal

pub invariant_of-result : goal.invariant_of-result
invariant_of-result c = record { well = chunk_each c.args.items c.args.rest c.args.depth c.requires }
