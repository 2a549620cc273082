use Rattle.seq_plan.proofs.StageLoops.{standing_enters}
use Rattle.seq_plan.proofs.law_standing_enters.Goals as goal

pub returns : goal.returns
returns c = standing_enters
