use Rattle.lawful_output.proofs.Written.{part_of_next}
use Rattle.lawful_output.proofs.law_part_of_next.Goals as goal

pub returns : goal.returns
returns c = λ rules program limit cells a b k written line part rest r rested l e. part_of_next rules program limit cells b k rested a written line part rest r l e
