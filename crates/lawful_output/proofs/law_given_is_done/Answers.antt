use Rattle.lawful_output.proofs.Ended.{given_is_done}
use Rattle.lawful_output.proofs.law_given_is_done.Goals as goal

pub returns : goal.returns
returns c = λ rules program limit a law k v h. given_is_done rules program limit a law k v h
