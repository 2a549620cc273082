use Rattle.seq_plan.proofs.StageLoops.{round_is_of_each}
use Rattle.seq_plan.proofs.law_round_is_of_each.Goals as goal

pub returns : goal.returns
returns c = round_is_of_each
