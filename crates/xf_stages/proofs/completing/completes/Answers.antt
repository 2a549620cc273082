use Rattle.xf_stages.specs.Flowing.{weight}
use Rattle.xf_stages.proofs.CompleteTurns.{none_completes, some_completes, some_lighter}
use Rattle.xf_stages.proofs.completing.completes.Goals as goal

pub returns-in-None-clause-leads : goal.returns-in-None-clause-leads
returns-in-None-clause-leads c = λ done. none_completes c.args.flow c.args.from c.completed.result c.requires.walks c.requires.under_way (rw c.in-None.is at c.find_group.ensures) c.completed.ensures.stages c.completed.ensures.done done

pub returns-in-Some-clause-leads : goal.returns-in-Some-clause-leads
returns-in-Some-clause-leads c = λ done. some_completes c.args.flow c.args.from c.in-Some.at c.passes_group.result c.requires.walks c.requires.under_way (rw c.in-Some.is at c.find_group.ensures) c.passes_group.ensures.leads done

pub returns-in-Some-clause-lighter : goal.returns-in-Some-clause-lighter
returns-in-Some-clause-lighter c = some_lighter c.args.flow c.args.from c.in-Some.at (weight c.passes_group.result) c.requires.under_way (rw c.in-Some.is at c.find_group.ensures) c.passes_group.ensures.lighter
