use Rattle.core_rows.proofs.AlikeCore.{like-core_call}
use Rattle.core_rows.proofs.law_calls_rename.Goals as goal

pub returns : goal.returns
returns c = λ test word xs ys h. like-core_call word h
