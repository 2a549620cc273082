use Rattle.lawful_output.proofs.Quiet.{claimed_only}
use Rattle.lawful_output.proofs.law_claimed_is_only.Goals as goal

pub returns : goal.returns
returns c = λ a b id asker w closed s. claimed_only a b id asker w closed s
