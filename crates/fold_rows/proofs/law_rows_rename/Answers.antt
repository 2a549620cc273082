use Rattle.fold_rows.proofs.AlikeTable.{like-fold_call, like-fold_term}
use Rattle.fold_rows.proofs.law_rows_rename.Goals as goal

pub returns : goal.returns
returns c = λ test xs ys h. (λ word. like-fold_call word h, like-fold_term h)
