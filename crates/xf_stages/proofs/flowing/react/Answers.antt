use Rattle.std.proofs.Common.{refl}
use Rattle.seq_values.specs.Plain.{plain}
use Rattle.xf_stages.specs.declared.state.Stage.TheVariants as S
use Rattle.xf_stages.proofs.EffectTurns.{puts_twice, reacts_as}
use Rattle.xf_stages.proofs.flowing.react.Goals as goal

pub returns : goal.returns
returns c = reacts_as c.args.flow c.put_stage-flow.result c.args.at c.take_stage-flow.result.stage (plain c.args.item.value) c.in_ok-reacted.reacted c.requires (c.take_stage-flow.ensures.stage) (puts_twice c.args.flow c.take_stage-flow.result.flow c.put_stage-flow.result c.args.at S.Cat c.in_ok-reacted.reacted.stage c.take_stage-flow.ensures.puts c.put_stage-flow.ensures) c.in_ok-reacted.ensures _ refl refl
