use Rattle.seq_plan.proofs.AlikeNodes.{like-first_of}
use Rattle.seq_plan.proofs.law_like_firsts.Goals as goal

pub returns : goal.returns
returns c = λ test v w h. like-first_of h
