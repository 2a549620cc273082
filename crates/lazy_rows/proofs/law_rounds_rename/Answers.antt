use Rattle.lazy_rows.proofs.AlikeTable.{like-walk_round}
use Rattle.lazy_rows.proofs.law_rounds_rename.Goals as goal

pub returns : goal.returns
returns c = λ test l xs ys h. like-walk_round l h
