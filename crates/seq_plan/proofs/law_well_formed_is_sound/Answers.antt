use Rattle.seq_plan.proofs.SoundValues.{well_formed_sound}
use Rattle.seq_plan.proofs.law_well_formed_is_sound.Goals as goal

pub returns : goal.returns
returns c = λ v e. well_formed_sound v e
