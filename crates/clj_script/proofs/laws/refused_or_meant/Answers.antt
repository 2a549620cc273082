use Rattle.clj_script.proofs.EveryLemmas as every
use Rattle.clj_script.proofs.laws.refused_or_meant.Goals as goal

pub returns : goal.returns
returns c = λ bytes. every.text_refused_or_meant bytes (c.script_or_refused.ensures bytes)
