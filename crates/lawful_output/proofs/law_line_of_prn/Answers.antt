use Rattle.lawful_output.proofs.Ended.{line_of_text}
use Rattle.lawful_output.proofs.law_line_of_prn.Goals as goal

pub returns : goal.returns
returns c = λ rules program limit a law k e bytes top h. line_of_text rules program limit a law k e bytes top h
