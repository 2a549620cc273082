use Rattle.std.proofs.Common.{refl}
use Rattle.seq_values.specs.Plain.{plain}
use Rattle.xf_stages.specs.declared.state.Stage.TheVariants as S
use Rattle.xf_stages.proofs.EffectTurns.{puts_twice, answers_as}
use Rattle.xf_stages.proofs.flowing.take_answer.Goals as goal

pub returns : goal.returns
returns c = answers_as c.args.waiting c.put_stage-flow.result c.take_stage-flow.result.stage (plain c.args.answer.value) c.on_answer-stage.result c.take_stage-flow.ensures.stage (puts_twice c.args.waiting.flow c.take_stage-flow.result.flow c.put_stage-flow.result c.args.waiting.at S.Cat c.on_answer-stage.result.stage c.take_stage-flow.ensures.puts c.put_stage-flow.ensures) c.on_answer-stage.ensures _ refl refl
