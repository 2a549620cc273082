use Rattle.seq_plan.proofs.Thens.{then_joins}
use Rattle.seq_plan.proofs.law_then_joins.Goals as goal

pub returns : goal.returns
returns c = λ p f g. then_joins p f g
