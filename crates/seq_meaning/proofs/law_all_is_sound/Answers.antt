use Rattle.seq_meaning.proofs.SoundRuns.{sound_given, sound_part}
use Rattle.seq_meaning.proofs.law_all_is_sound.Goals as goal

pub returns : goal.returns
returns c = λ rules keeps program limit. (λ e v g. sound_given rules program limit keeps g, λ n kind defs t p. sound_part rules program limit keeps p)
