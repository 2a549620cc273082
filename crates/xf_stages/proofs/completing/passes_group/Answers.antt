use Rattle.xf_stages.specs.declared.state.Stage.TheVariants as S
use Rattle.xf_stages.proofs.EffectTurns.{puts_twice}
use Rattle.xf_stages.proofs.CompleteTurns.{group_leads, group_lighter}
use Rattle.xf_stages.proofs.completing.passes_group.Goals as goal

pub returns-clause-leads : goal.returns-clause-leads
returns-clause-leads c = group_leads c.args.flow c.put_stage-flow.result c.completing_from.result c.args.at c.take_stage-flow.result.stage c.emptied-stage.result.stage c.emptied-stage.result.group c.requires.within c.take_stage-flow.ensures.stage c.requires.group c.requires.walks (puts_twice c.args.flow c.take_stage-flow.result.flow c.put_stage-flow.result c.args.at S.Cat c.emptied-stage.result.stage c.take_stage-flow.ensures.puts c.put_stage-flow.ensures) c.emptied-stage.ensures.same c.emptied-stage.ensures.group c.completing_from.ensures.stages c.completing_from.ensures.walks c.completing_from.ensures.under_way

pub returns-clause-lighter : goal.returns-clause-lighter
returns-clause-lighter c = group_lighter c.args.flow c.put_stage-flow.result c.completing_from.result c.args.at c.emptied-stage.result.stage c.requires.within c.requires.walks (puts_twice c.args.flow c.take_stage-flow.result.flow c.put_stage-flow.result c.args.at S.Cat c.emptied-stage.result.stage c.take_stage-flow.ensures.puts c.put_stage-flow.ensures) c.completing_from.ensures.stages c.completing_from.ensures.walks c.completing_from.ensures.under_way
