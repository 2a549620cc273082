use Rattle.lazy_rows.proofs.AlikeTable.{like-lazy_term}
use Rattle.lazy_rows.proofs.law_terms_rename.Goals as goal

pub returns : goal.returns
returns c = λ test size op xs ys h. like-lazy_term size op h
