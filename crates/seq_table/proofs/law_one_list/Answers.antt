use Rattle.seq_table.specs.Table.{chunk_size, language}
use Rattle.seq_table.proofs.AlikeWhole.{like-rules_of}
use Rattle.seq_table.proofs.OneList.{one_list}
use Rattle.seq_table.proofs.law_one_list.Goals as goal

pub returns : goal.returns
returns c = λ processors program limit defs t l m i a b. one_list (language processors) program limit (λ R. like-rules_of processors chunk_size) i a b
