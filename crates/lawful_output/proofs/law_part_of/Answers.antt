use Rattle.lawful_output.proofs.Written.{part_of}
use Rattle.lawful_output.proofs.law_part_of.Goals as goal

pub returns : goal.returns
returns c = λ rules program limit cells a k written part rest r e. part_of rules program limit cells a k written part rest r e
