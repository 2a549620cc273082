use Rattle.std.proofs.Common.{ap}
use Rattle.seq_values.specs.Plain.{plain}
use Rattle.seq_plan.specs.Plan.{call, give}
use Rattle.seq_turns.proofs.Taking.{takes_same}
use Rattle.ahead_rules.specs.Left.{running}
use Rattle.ahead_rules.proofs.calling.call_begins.Goals as goal

pub returns : goal.returns
returns c = takes_same running (ap (λ xs. call (plain c.args.function.value) xs give) c.in_ok-args.ensures.stands) c.calls.ensures
