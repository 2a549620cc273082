use Rattle.seq_table.specs.Table.{language}
use Rattle.seq_table.proofs.OneRun.{one_run}
use Rattle.seq_table.proofs.law_one_run.Goals as goal

pub returns : goal.returns
returns c = λ processors program limit cells a b xs ys r s. one_run (language processors) program limit cells r s
