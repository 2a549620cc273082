use Rattle.clj_reader.proofs.ScriptLemmas.{answers_script, answers_refusal}
use Rattle.clj_reader.proofs.read.read_forms.Goals as goal

pub returns-clause-only : goal.returns-clause-only
returns-clause-only c = answers_script _ _ c.read_text.ensures

pub returns-clause-refuses : goal.returns-clause-refuses
returns-clause-refuses c = answers_refusal _ _ c.read_text.ensures
