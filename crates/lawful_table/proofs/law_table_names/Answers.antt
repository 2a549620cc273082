use Rattle.lawful_table.proofs.Naming.{table_names}
use Rattle.lawful_table.proofs.law_table_names.Goals as goal

pub returns : goal.returns
returns c = λ processors size program limit. table_names processors size program limit
