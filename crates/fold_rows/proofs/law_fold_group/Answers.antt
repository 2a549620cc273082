use Rattle.fold_rows.proofs.Halves.{folds_a_group}
use Rattle.fold_rows.proofs.law_fold_group.Goals as goal

pub returns : goal.returns
returns c = folds_a_group
