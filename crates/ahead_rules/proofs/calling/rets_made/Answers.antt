use Rattle.ahead_rules.proofs.Moves.{rets_answer}
use Rattle.ahead_rules.proofs.calling.rets_made.Goals as goal

pub returns : goal.returns
returns c = rets_answer c.args.function c.args.rest c.args.chunk c.args.id c.of_part-part.result.value c.in_ok-answers.answers.items.items c.in_ok-next.next c.of_part-part.ensures.stands c.in_ok-answers.ensures.stands c.in_ok-next.ensures
