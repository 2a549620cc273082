use Rattle.pull_rules.proofs.TransduceTurns.{first_asked}
use Rattle.pull_rules.proofs.transducing.calls_first.Goals as goal

pub returns : goal.returns
returns c = first_asked c.args.stages c.args.function c.args.source c.in_ok-called.called.value c.none.result.items c.calls.result c.in_ok-called.ensures c.none.ensures c.calls.ensures
