use Rattle.lawful_output.proofs.Written.{reached_new}
use Rattle.lawful_output.proofs.law_reached_new.Goals as goal

pub returns : goal.returns
returns c = λ rules program limit cells. reached_new rules program limit cells
