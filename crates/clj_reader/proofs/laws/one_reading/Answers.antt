use Rattle.clj_reader.proofs.ScriptLemmas.{one_script}
use Rattle.clj_reader.proofs.laws.one_reading.Goals as goal

pub returns : goal.returns
returns c = one_script
