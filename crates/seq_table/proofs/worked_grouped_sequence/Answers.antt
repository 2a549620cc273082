use Rattle.seq_table.proofs.WorkedGroupedSequence.{grouped_sequence_holds}
use Rattle.seq_table.proofs.worked_grouped_sequence.Goals as goal

pub returns : goal.returns
returns c = grouped_sequence_holds
