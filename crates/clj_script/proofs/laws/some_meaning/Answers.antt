use Rattle.clj_script.proofs.EveryLemmas as every
use Rattle.clj_script.proofs.laws.some_meaning.Goals as goal

pub returns : goal.returns
returns c = every.some_meaning
