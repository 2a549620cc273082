use Rattle.ahead_rows.proofs.AlikeAhead.{like-ahead_call}
use Rattle.ahead_rows.proofs.law_calls_rename.Goals as goal

pub returns : goal.returns
returns c = λ test processors word xs ys h. like-ahead_call processors word h
