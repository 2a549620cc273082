use Rattle.seq_values.specs.Plain.{plain}
use Rattle.xf_stages.specs.Left.{at_rest, left_call}
use Rattle.xf_stages.proofs.RunTurns.{answer_goes, still_there}
use Rattle.xf_stages.proofs.state.AtCall.answered.Goals as goal

pub on_effect-requires : goal.on_effect-requires
on_effect-requires c = still_there c.args.self (plain c.args.answer.value) c.take_answer-flow.result c.take_answer-flow.ensures

pub returns : goal.returns
returns c = c.run.ensures (at_rest c.args.self.flow) (left_call c.args.self (plain c.args.answer.value)) (answer_goes c.args.self (plain c.args.answer.value) c.take_answer-flow.result c.on_effect.result c.take_answer-flow.ensures c.on_effect.ensures.leads)
