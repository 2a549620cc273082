use Rattle.lawful_output.proofs.Written.{threw}
use Rattle.lawful_output.proofs.law_threw_at.Goals as goal

pub returns : goal.returns
returns c = λ rules program limit cells a b k written r rested name e why top h. threw rules program limit cells b k rested a written r name e why top h
