use Rattle.seq_plan.proofs.SoundByLikes.{sound_rules}
use Rattle.seq_table.proofs.AlikeWhole.{like-rules_of}
use Rattle.seq_table.proofs.law_table_is_sound.Goals as goal

pub returns : goal.returns
returns c = λ processors size. (sound_rules (like-rules_of processors size), sound_rules (like-rules_of processors size))
