use Rattle.lawful_output.proofs.Quiet.{begun_counts}
use Rattle.lawful_output.proofs.law_begun_counts.Goals as goal

pub returns : goal.returns
returns c = λ a b e. begun_counts a b e
