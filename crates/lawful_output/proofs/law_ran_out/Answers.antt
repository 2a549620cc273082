use Rattle.lawful_output.proofs.Written.{out}
use Rattle.lawful_output.proofs.law_ran_out.Goals as goal

pub returns : goal.returns
returns c = λ rules program limit cells a b k written r law is long s. out rules program limit cells a b k written r law is long s
