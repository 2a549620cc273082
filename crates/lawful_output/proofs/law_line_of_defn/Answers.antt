use Rattle.seq_table.specs.Outputs.{line_of_defn}
use Rattle.lawful_output.proofs.law_line_of_defn.Goals as goal

pub returns : goal.returns
returns c = λ rules program limit k top. line_of_defn top
