use Rattle.lawful_output.proofs.Ended.{line_of_thrown_def}
use Rattle.lawful_output.proofs.law_line_of_thrown_def.Goals as goal

pub returns : goal.returns
returns c = λ rules program limit a law k name e why top h. line_of_thrown_def rules program limit a law k name e why top h
