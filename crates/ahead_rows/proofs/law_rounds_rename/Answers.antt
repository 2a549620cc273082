use Rattle.ahead_rows.proofs.AlikeAhead.{like-ahead_round}
use Rattle.ahead_rows.proofs.law_rounds_rename.Goals as goal

pub returns : goal.returns
returns c = λ test l xs ys h. like-ahead_round l h
