use Rattle.lawful_table.proofs.Naming.{table_kept}
use Rattle.lawful_table.proofs.law_table_keeps_books.Goals as goal

pub returns : goal.returns
returns c = λ processors size program limit. table_kept processors size program limit
