use Rattle.seq_table.proofs.WorkedFoldAsTree.{fold_as_tree_holds}
use Rattle.seq_table.proofs.worked_fold_as_tree.Goals as goal

pub returns : goal.returns
returns c = fold_as_tree_holds
