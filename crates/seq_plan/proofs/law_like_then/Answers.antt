use Rattle.seq_plan.proofs.AlikePlans.{like-then}
use Rattle.seq_plan.proofs.law_like_then.Goals as goal

pub returns : goal.returns
returns c = λ test p q f g h k. like-then h k
