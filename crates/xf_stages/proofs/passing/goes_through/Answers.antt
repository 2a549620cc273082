use Rattle.std.proofs.Common.{◌≡◌, true}
use Rattle.xf_stages.specs.Flowing.{weight}
use Rattle.xf_stages.proofs.PassTurns.{last_through, last_through_lighter, walk_goes, walk_lighter, none_goes, none_lighter}
use Rattle.xf_stages.proofs.passing.goes_through.Goals as goal

pub returns-then-done-clause-leads : goal.returns-then-done-clause-leads
returns-then-done-clause-leads c = rw c.if-done.true (last_through c.args.flow c.last_of-flow.result c.finish.result c.last_of-flow.ensures c.finish.ensures.leads)

pub returns-then-done-clause-lighter : goal.returns-then-done-clause-lighter
returns-then-done-clause-lighter c = last_through_lighter c.args.flow c.last_of-flow.result (weight c.finish.result) c.last_of-flow.ensures c.finish.ensures.lighter

pub returns-in-None-clause-leads : goal.returns-in-None-clause-leads
returns-in-None-clause-leads c = rw c.if-done.false (none_goes c.args.flow c.unwound-flow.result.flow c.finish-in-None.result c.unwound-flow.ensures.same (rw c.in-None.is at c.unwound-flow.ensures.walks) c.finish-in-None.ensures.leads)

pub returns-in-None-clause-lighter : goal.returns-in-None-clause-lighter
returns-in-None-clause-lighter c = none_lighter c.args.flow c.unwound-flow.result.flow (weight c.finish-in-None.result) c.unwound-flow.ensures.same (rw c.in-None.is at c.unwound-flow.ensures.walks) c.finish-in-None.ensures.lighter

pub returns-in-Some-clause-leads : goal.returns-in-Some-clause-leads
returns-in-Some-clause-leads c = rw c.if-done.false (walk_goes c.args.flow c.unwound-flow.result.flow c.in-Some.walk c.walk_on.result c.unwound-flow.ensures.same (rw c.in-Some.is at c.unwound-flow.ensures.walks) c.walk_on.ensures.leads)

pub returns-in-Some-clause-lighter : goal.returns-in-Some-clause-lighter
returns-in-Some-clause-lighter c = walk_lighter c.args.flow c.unwound-flow.result.flow c.in-Some.walk (weight c.walk_on.result) c.unwound-flow.ensures.same (rw c.in-Some.is at c.unwound-flow.ensures.walks) c.walk_on.ensures.lighter
