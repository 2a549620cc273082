use Rattle.seq_meaning.proofs.WellRuns.{well_given, well_part}
use Rattle.seq_table.specs.Table.{chunk_size, language}
use Rattle.seq_table.proofs.WellWhole.{keeps-rules_of}
use Rattle.seq_table.proofs.law_runs_are_well.Goals as goal

pub returns : goal.returns
returns c = λ processors program limit. (well_given (language processors) program limit (keeps-rules_of processors chunk_size), well_part (language processors) program limit (keeps-rules_of processors chunk_size))
