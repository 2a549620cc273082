use Rattle.pull_rules.proofs.TransduceTurns.{last_called}
use Rattle.pull_rules.proofs.transducing.calls_last.Goals as goal

pub returns : goal.returns
returns c = last_called c.args.function.value c.args.answer.value c.in_ok-args.args.items c.calls.result c.in_ok-args.ensures.stands c.calls.ensures
