use Rattle.ahead_rules.proofs.Moves.{derefs_answer}
use Rattle.ahead_rules.proofs.asking.derefs_answered.Goals as goal

pub returns : goal.returns
returns c = derefs_answer c.args.rest c.args.chunk c.args.answer.value c.in_ok-answers.answers.items.items c.in_ok-next.next c.in_ok-answers.ensures.stands c.in_ok-next.ensures
