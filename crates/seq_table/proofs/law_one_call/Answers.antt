use Rattle.seq_table.specs.Table.{chunk_size, language}
use Rattle.seq_table.proofs.AlikeWhole.{like-rules_of}
use Rattle.seq_table.proofs.OneCall.{one_call}
use Rattle.seq_table.proofs.law_one_call.Goals as goal

pub returns : goal.returns
returns c = λ processors program limit defs f xs y z a b. one_call (language processors) program limit (λ R. like-rules_of processors chunk_size) defs f xs y z a b
