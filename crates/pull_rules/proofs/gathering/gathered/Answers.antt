use Rattle.std.proofs.Common.{sym, subst}
use Rattle.seq_values.specs.Plain.{plains}
use Rattle.seq_plan.specs.Stages.{gathers}
use Rattle.pull_rules.specs.Reducing.{Gathers}
use Rattle.pull_rules.proofs.Gatherings.{fewer_out, advances_first, advances_asks, advances_throw, advances_rest, advances_output}
use Rattle.pull_rules.proofs.gathering.gathered.Goals as goal

pub loop-next-init : goal.loop-next-init
loop-next-init c = record { leads = λ stages course h. advances_first stages course c.args.flow c.args.outputs h }

pub loop-next-smaller : goal.loop-next-smaller
loop-next-smaller c = fewer_out c.loop-next.here.flow c.in-Out.waiting c.in-Out.item c.in_ok-here-in-Out.here.flow c.in-Out.is c.in_ok-here-in-Out.ensures.flow

pub loop-next-preserved : goal.loop-next-preserved
loop-next-preserved c = record { leads = λ stages course h. advances_output stages _ c.in-Out.waiting c.in-Out.item c.loop-next.here.flow c.in_ok-here-in-Out.here.flow c.loop-next.here.outputs c.in_ok-here-in-Out.here.outputs c.in-Out.is c.in_ok-here-in-Out.ensures.outputs (c.loop-next.invariant.leads stages course h) c.in_ok-here-in-Out.ensures.flow }

pub returns-in-Asks : goal.returns-in-Asks
returns-in-Asks c = λ stages course h. subst (λ r. Gathers stages (λ k. course (gathers (plains c.args.outputs.items.items)) k) r) (sym c.asks.ensures) (advances_asks stages _ c.in-Asks.next c.loop-next.here.flow c.loop-next.here.outputs c.in-Asks.is (c.loop-next.invariant.leads stages course h))

pub returns-in-Throw : goal.returns-in-Throw
returns-in-Throw c = λ stages course h. subst (λ r. Gathers stages (λ k. course (gathers (plains c.args.outputs.items.items)) k) r) (sym c.stopped.ensures) (advances_throw stages _ c.in-Throw.why c.loop-next.here.flow c.loop-next.here.outputs c.in-Throw.is (c.loop-next.invariant.leads stages course h))

pub returns-in-Rest : goal.returns-in-Rest
returns-in-Rest c = λ stages course h. subst (λ r. Gathers stages (λ k. course (gathers (plains c.args.outputs.items.items)) k) r) (sym c.rests.ensures) (advances_rest stages _ c.in-Rest.stages c.loop-next.here.flow c.loop-next.here.outputs c.in-Rest.is (c.loop-next.invariant.leads stages course h))
