use Rattle.std.proofs.Common.{refl}
use Rattle.fold_rows.proofs.worked_folded.Goals as goal

pub returns : goal.returns
returns c = λ combine f x y w k. (refl, refl)
