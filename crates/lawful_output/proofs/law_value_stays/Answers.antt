use Rattle.lawful_output.proofs.Ended.{value_stays}
use Rattle.lawful_output.proofs.law_value_stays.Goals as goal

pub returns : goal.returns
returns c = λ rules program limit a b law r k v h. value_stays rules program limit a law b r k v h
