use Rattle.seq_table.proofs.AlikeWhole.{like-rules_of}
use Rattle.seq_table.proofs.law_table_renames.Goals as goal

pub returns : goal.returns
returns c = λ processors size. (λ p q. like-rules_of processors size, λ test. like-rules_of processors size)
