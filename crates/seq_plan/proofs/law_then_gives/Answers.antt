use Rattle.seq_plan.proofs.Thens.{then_gives}
use Rattle.seq_plan.proofs.law_then_gives.Goals as goal

pub returns : goal.returns
returns c = λ p. then_gives p
