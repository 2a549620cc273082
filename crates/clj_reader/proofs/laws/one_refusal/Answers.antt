use Rattle.clj_reader.proofs.ScriptLemmas as script
use Rattle.clj_reader.proofs.laws.one_refusal.Goals as goal

pub returns-clause-one : goal.returns-clause-one
returns-clause-one c = script.one_refusal

pub returns-clause-never_both : goal.returns-clause-never_both
returns-clause-never_both c = script.never_both
