use Rattle.seq_table.proofs.WrittenNoneKept.{none_kept_is_written}
use Rattle.seq_table.proofs.written_none_kept.Goals as goal

pub returns : goal.returns
returns c = none_kept_is_written
