use Rattle.lawful_output.proofs.Ended.{no_def_throws}
use Rattle.lawful_output.proofs.law_no_def_throws.Goals as goal

pub returns : goal.returns
returns c = λ rules program limit a law k h done. no_def_throws rules program limit a law k h done
