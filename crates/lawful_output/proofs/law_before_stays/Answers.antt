use Rattle.lawful_output.proofs.Ended.{before_stays}
use Rattle.lawful_output.proofs.law_before_stays.Goals as goal

pub returns : goal.returns
returns c = λ a b r outcomes i h. before_stays a b r outcomes i h
