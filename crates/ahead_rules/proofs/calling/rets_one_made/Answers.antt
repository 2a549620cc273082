use Rattle.ahead_rules.proofs.Moves.{rets_one_answer}
use Rattle.ahead_rules.proofs.calling.rets_one_made.Goals as goal

pub returns : goal.returns
returns c = rets_one_answer c.args.function c.args.rest c.of_part-first.result c.args.id c.in_ok-args.args.items c.makes_part.result c.of_part-first.ensures.stands c.in_ok-args.ensures.stands c.makes_part.ensures
