use Rattle.seq_table.specs.Table.{chunk_size, language}
use Rattle.seq_table.proofs.AlikeWhole.{like-rules_of}
use Rattle.seq_table.proofs.PlainAlike.{like_is_alike}
use Rattle.seq_table.proofs.law_like_is_alike.Goals as goal

pub returns : goal.returns
returns c = λ processors program limit y z h. like_is_alike (language processors) program limit (λ R. like-rules_of processors chunk_size) y z h
