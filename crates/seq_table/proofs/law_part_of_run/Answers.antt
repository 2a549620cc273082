use Rattle.seq_table.specs.Table.{language}
use Rattle.seq_table.proofs.RunParts.{part_of_run}
use Rattle.seq_table.proofs.law_part_of_run.Goals as goal

pub returns : goal.returns
returns c = λ processors program limit cells ending bytes text p r. part_of_run (language processors) program limit p r
