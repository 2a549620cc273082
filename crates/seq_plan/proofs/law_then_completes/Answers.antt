use Rattle.seq_plan.proofs.StageThens.{then_complete}
use Rattle.seq_plan.proofs.law_then_completes.Goals as goal

pub returns : goal.returns
returns c = λ stages states sink k h. then_complete h stages states sink k
