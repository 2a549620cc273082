use Rattle.lawful_output.proofs.Ended.{one_more_before}
use Rattle.lawful_output.proofs.law_one_more_before.Goals as goal

pub returns : goal.returns
returns c = λ rules program limit a law outcomes all. one_more_before rules program limit a law outcomes all
