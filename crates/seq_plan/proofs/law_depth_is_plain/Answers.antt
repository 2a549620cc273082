use Rattle.seq_plan.proofs.Depths.{depth_agrees}
use Rattle.seq_plan.proofs.law_depth_is_plain.Goals as goal

pub returns : goal.returns
returns c = depth_agrees
