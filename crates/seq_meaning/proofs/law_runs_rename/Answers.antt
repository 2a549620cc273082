use Rattle.seq_plan.specs.Alike.{Tells}
use Rattle.seq_meaning.proofs.AlikeWalk.{like-walk}
use Rattle.seq_meaning.proofs.law_runs_rename.Goals as goal

pub returns : goal.returns
returns c = λ test s t hs f g hc n p q e j os ps h. like-walk (Tells test) hs f g hc n e j os ps h
