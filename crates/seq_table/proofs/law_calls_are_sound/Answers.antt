use Rattle.seq_table.proofs.SoundCalls.{calls_sound}
use Rattle.seq_table.proofs.law_calls_are_sound.Goals as goal

pub returns : goal.returns
returns c = λ processors program limit defs f xs y ds h hs d. calls_sound processors program limit defs f xs y ds h hs d
