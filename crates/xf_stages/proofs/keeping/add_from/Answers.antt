use Rattle.std.proofs.Common.{◌≡◌, arith}
use Rattle.seq_values.specs.Plain.{plains}
use Rattle.xf_stages.proofs.StateTurns.{added_none, added_next, added_end, too_many_end}
use Rattle.xf_stages.proofs.keeping.add_from.Goals as goal

pub loop-here-init : goal.loop-here-init
loop-here-init c = record { added = added_none (plains c.args.all.items.items) }

pub loop-here-preserved : goal.loop-here-preserved
loop-here-preserved c = record { added = added_next c.args.stages.now c.loop-here.here (plains c.args.all.items.items) (plains c.loop-here.all.items.items) (plains c.in-All.more.items.items) (omega (arith, c.loop-here-test.true)) c.loop-here.invariant.added (rw c.in-All.is at c.in_ok-grown.ensures) }

pub returns-in-TooMany : goal.returns-in-TooMany
returns-in-TooMany c = too_many_end c.args.stages.now c.loop-here.here (plains c.args.all.items.items) (plains c.loop-here.all.items.items) (omega (arith, c.loop-here-test.true)) c.loop-here.invariant.added (rw c.in-TooMany.is at c.in_ok-grown.ensures)

pub returns : goal.returns
returns c = added_end c.args.stages.now c.loop-here.here (plains c.args.all.items.items) (plains c.loop-here.all.items.items) (omega (arith, c.loop-here-test.false)) c.loop-here.invariant.added
