use Rattle.lawful_output.proofs.Written.{reached_on}
use Rattle.lawful_output.proofs.law_reached_on.Goals as goal

pub returns : goal.returns
returns c = λ rules program limit cells a b k written line r rested last l. reached_on rules program limit cells b k rested a written line r last l
