use Rattle.clj_reader.proofs.ScriptLemmas as script
use Rattle.clj_reader.proofs.laws.script_or_refused.Goals as goal

pub returns : goal.returns
returns c = script.script_or_refused
