use Rattle.lawful_output.proofs.Quiet.{begun_only}
use Rattle.lawful_output.proofs.law_begun_is_only.Goals as goal

pub returns : goal.returns
returns c = λ a b number w closed s. begun_only a b number w closed s
