use Rattle.seq_values.specs.Plain.{plain}
use Rattle.pull_rules.proofs.Reductions.{told_output}
use Rattle.pull_rules.proofs.reduction.output_told.Goals as goal

pub returns : goal.returns
returns c = told_output c.args.answering.waiting c.args.answering.function c.args.value (plain c.in_ok-answer.answer.value.value) c.in_ok-answer.answer.ended c.in_ok-next.next c.in_ok-answer.ensures.value c.in_ok-answer.ensures.ended (c.in_ok-next.ensures _ _ (c.flowed.ensures _ _ c.in_ok-turn.ensures))
