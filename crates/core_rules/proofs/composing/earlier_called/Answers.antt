use Rattle.core_rules.specs.Left.{core_runs}
use Rattle.seq_turns.proofs.Taking.{takes_same}
use Rattle.core_rules.proofs.Compositions.{earlier_calls}
use Rattle.core_rules.proofs.composing.earlier_called.Goals as goal

pub returns : goal.returns
returns c = takes_same core_runs (earlier_calls c.args.functions.items c.args.left c.in_ok-function.function.value c.args.answer.value _ c.in_ok-args.args.items c.in_ok-function.ensures c.in_ok-args.ensures.stands) c.asks_call.ensures
