use Rattle.lawful_output.proofs.Written.{over_where_spent}
use Rattle.lawful_output.proofs.law_over_where_spent.Goals as goal

pub returns : goal.returns
returns c = λ rules program limit cells a k law is long s. over_where_spent rules program limit cells a k law is long s
