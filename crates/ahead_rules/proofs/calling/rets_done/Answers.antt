use Rattle.std.proofs.Common.{drop}
use Rattle.seq_values.specs.Plain.{plains}
use Rattle.ahead_rules.proofs.Moves.{rets_ends}
use Rattle.ahead_rules.proofs.calling.rets_done.Goals as goal

pub returns : goal.returns
returns c = rets_ends c.args.function c.args.rest (plains c.args.answers.items.items) (drop c.args.at c.args.items.items) c.in_ok-args.args.items c.in_ok-next.next c.requires c.in_ok-args.ensures.stands c.in_ok-next.ensures
