use Rattle.lawful_output.proofs.Written.{through}
use Rattle.lawful_output.proofs.law_ran_through.Goals as goal

pub returns : goal.returns
returns c = λ rules program limit cells a k written r e. through rules program limit cells a k written r e
