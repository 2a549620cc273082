use Rattle.seq_table.proofs.WellWhole.{keeps-rules_of}
use Rattle.seq_table.proofs.law_table_keeps.Goals as goal

pub returns : goal.returns
returns c = λ processors size. (keeps-rules_of processors size, keeps-rules_of processors size)
