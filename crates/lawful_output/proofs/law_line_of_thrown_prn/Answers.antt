use Rattle.lawful_output.proofs.Ended.{line_of_thrown_prn}
use Rattle.lawful_output.proofs.law_line_of_thrown_prn.Goals as goal

pub returns : goal.returns
returns c = λ rules program limit a law k e why top h. line_of_thrown_prn rules program limit a law k e why top h
