use Rattle.lazy_rows.proofs.AlikeTable.{like-walk_call}
use Rattle.lazy_rows.proofs.law_calls_rename.Goals as goal

pub returns : goal.returns
returns c = λ test word xs ys h. like-walk_call word h
