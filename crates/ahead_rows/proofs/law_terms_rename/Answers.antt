use Rattle.ahead_rows.proofs.AlikeAhead.{like-ahead_term}
use Rattle.ahead_rows.proofs.law_terms_rename.Goals as goal

pub returns : goal.returns
returns c = λ test size op xs ys h. like-ahead_term size op h
