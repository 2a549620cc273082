use Rattle.seq_plan.proofs.StageThens.{then_enter}
use Rattle.seq_plan.proofs.law_then_enters.Goals as goal

pub returns : goal.returns
returns c = λ stages states sink x k h. then_enter h stages states sink x k
