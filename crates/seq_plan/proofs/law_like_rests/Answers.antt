use Rattle.seq_plan.proofs.AlikeNodes.{like-rests_of}
use Rattle.seq_plan.proofs.law_like_rests.Goals as goal

pub returns : goal.returns
returns c = λ test n v w h. like-rests_of n h
