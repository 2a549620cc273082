use Rattle.lawful_output.proofs.Quiet.{rest_closed}
use Rattle.lawful_output.proofs.law_rest_is_closed.Goals as goal

pub returns : goal.returns
returns c = λ rules program limit a law rest c. rest_closed rules program limit a law rest c
