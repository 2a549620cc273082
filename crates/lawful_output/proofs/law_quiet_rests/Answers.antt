use Rattle.lawful_output.proofs.Quiet.{quiet_rests}
use Rattle.lawful_output.proofs.law_quiet_rests.Goals as goal

pub returns : goal.returns
returns c = λ rules program limit a law closed none spent gave_up. quiet_rests rules program limit a law closed none spent gave_up
