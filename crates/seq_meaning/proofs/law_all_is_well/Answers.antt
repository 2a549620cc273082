use Rattle.seq_meaning.proofs.WellRuns.{well_given, well_part}
use Rattle.seq_meaning.proofs.law_all_is_well.Goals as goal

pub returns : goal.returns
returns c = λ rules keeps program limit. (well_given rules program limit keeps, well_part rules program limit keeps)
