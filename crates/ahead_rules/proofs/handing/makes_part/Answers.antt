use Rattle.std.proofs.Common.{ap}
use Rattle.seq_plan.specs.Plan.{make}
use Rattle.seq_turns.proofs.Taking.{takes_same}
use Rattle.ahead_rules.specs.Left.{running, left_part}
use Rattle.ahead_rules.proofs.handing.makes_part.Goals as goal

pub returns : goal.returns
returns c = takes_same running (ap (λ t. make c.args.kind t (λ m. left_part c.args.next m)) c.term.ensures.same) c.makes.ensures
