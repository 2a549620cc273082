use Rattle.seq_plan.proofs.WellSounds.{well-sound}
use Rattle.seq_plan.proofs.law_well_is_sound.Goals as goal

pub returns : goal.returns
returns c = λ v w. well-sound w
