use Rattle.std.proofs.Common.{ap}
use Rattle.seq_plan.specs.Plan.{give}
use Rattle.seq_turns.proofs.Taking.{takes_same}
use Rattle.ahead_rules.specs.Left.{running}
use Rattle.ahead_rules.proofs.taking.given_rest.Goals as goal

pub returns : goal.returns
returns c = takes_same running (ap give c.in_ok-value.ensures) c.gives.ensures
