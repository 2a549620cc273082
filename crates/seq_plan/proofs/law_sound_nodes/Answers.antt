use Rattle.seq_plan.proofs.SoundNodes.{first_sound, rest_sound, chunk_sound, found_sound}
use Rattle.seq_plan.proofs.law_sound_nodes.Goals as goal

pub returns : goal.returns
returns c = λ v h. (first_sound h, rest_sound h, λ size xs r e. chunk_sound size h e, λ s e. found_sound h e)
