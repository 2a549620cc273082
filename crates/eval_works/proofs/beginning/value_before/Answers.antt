use Rattle.clj_script.specs.Seen.{seen}
use Rattle.seq_values.specs.Plain.{plain}
use Rattle.eval_works.proofs.Before.{next_nil, next_def}
use Rattle.eval_works.proofs.beginning.value_before.Goals as goal

pub returns-then-not-defines : goal.returns-then-not-defines
returns-then-not-defines c = next_nil (seen c.args.program.now).tops c.args.outcomes.now c.args.at c.defines.result c.if-not-defines.true c.defines.ensures c.requires.form c.requires.within (plain c.nil.result.value) c.nil.ensures.stands

pub returns : goal.returns
returns c = next_def (seen c.args.program.now).tops c.args.outcomes.now c.args.at c.defines.result c.if-not-defines.false c.defines.ensures c.requires.form c.requires.within c.in_ok-value.value.value c.in_ok-value.ensures
