use Rattle.std.proofs.Common.{sym, ◌∙◌}
use Rattle.seq_values.specs.Plain.{plains}
use Rattle.eval_rules.proofs.Words.{is_core}
use Rattle.eval_rules.proofs.choosing.plain_word.Goals as goal

pub returns-clause-left : goal.returns-clause-left
returns-clause-left c = c.core_word.ensures.left ∙ is_core c.args.processors (plains c.args.args.items) c.args.word c.requires (sym c.is_lazy_word.ensures ∙ c.if-is_lazy_word.false) (sym c.is_reducer_word.ensures ∙ c.if-is_reducer_word.false) (sym c.is_stage_word.ensures ∙ c.if-is_stage_word.false) (sym c.walks.ensures ∙ c.if-walks.false)
