use Rattle.seq_plan.proofs.AlikeNodes.{like-depth}
use Rattle.seq_plan.proofs.law_like_is_as_deep.Goals as goal

pub returns : goal.returns
returns c = λ test v w h. like-depth h
