use Rattle.seq_table.proofs.ListsOf.{lists}
use Rattle.seq_table.proofs.law_lists.Goals as goal

pub returns : goal.returns
returns c = λ processors program limit e defs t v l i o g b. lists processors program limit e defs t v l i o g b
