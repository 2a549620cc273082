use Rattle.lawful_output.proofs.Ended.{error_stays}
use Rattle.lawful_output.proofs.law_error_stays.Goals as goal

pub returns : goal.returns
returns c = λ a b r k why h. error_stays a b r k why h
