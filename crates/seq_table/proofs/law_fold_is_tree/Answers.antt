use Rattle.seq_table.proofs.FoldedTree.{folded}
use Rattle.seq_table.proofs.law_fold_is_tree.Goals as goal

pub returns : goal.returns
returns c = λ processors program limit defs size combine f stages items y h d. folded processors program limit defs size h combine f stages items y d
