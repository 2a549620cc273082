use Rattle.clj_script.proofs.WrittenLemmas.{written_well}
use Rattle.clj_script.proofs.laws.written_is_well_formed.Goals as goal

pub returns : goal.returns
returns c = written_well
