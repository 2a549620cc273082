use Rattle.lawful_output.proofs.Ended.{prn_gives_text}
use Rattle.lawful_output.proofs.law_prn_gives_text.Goals as goal

pub returns : goal.returns
returns c = λ processors program limit a law k e v top h. prn_gives_text processors program limit a law k e v top h
