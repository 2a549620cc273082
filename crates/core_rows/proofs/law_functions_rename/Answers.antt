use Rattle.core_rows.proofs.AlikeCore.{like-core_function}
use Rattle.core_rows.proofs.law_functions_rename.Goals as goal

pub returns : goal.returns
returns c = λ test t bs cs xs ys p q. like-core_function t p q
