use Rattle.stage_rows.proofs.AlikeTable.{like-stage_call, like-pull_term, like-stage_round}
use Rattle.stage_rows.proofs.law_rows_rename.Goals as goal

pub returns : goal.returns
returns c = λ test xs ys h. (λ word. like-stage_call word h, λ size. like-pull_term size h, λ loop. like-stage_round loop h)
