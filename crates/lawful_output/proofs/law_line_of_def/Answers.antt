use Rattle.lawful_output.proofs.Ended.{line_of_value}
use Rattle.lawful_output.proofs.law_line_of_def.Goals as goal

pub returns : goal.returns
returns c = λ rules program limit a law k name e v top h. line_of_value rules program limit a law k name e v top h
