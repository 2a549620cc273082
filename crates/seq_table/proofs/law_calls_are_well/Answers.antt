use Rattle.seq_table.proofs.WellCalls.{calls_well}
use Rattle.seq_table.proofs.law_calls_are_well.Goals as goal

pub returns : goal.returns
returns c = λ processors program limit defs f xs y ds h hs d. calls_well processors program limit defs f xs y ds h hs d
