use Rattle.fold_rows.proofs.Halves.{folds_halves}
use Rattle.fold_rows.proofs.law_fold_halves.Goals as goal

pub returns : goal.returns
returns c = folds_halves
