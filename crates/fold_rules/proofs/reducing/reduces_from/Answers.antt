use Rattle.seq_values.specs.Plain.{plain}
use Rattle.fold_rules.proofs.Reductions.{rule_called}
use Rattle.fold_rules.proofs.reducing.reduces_from.Goals as goal

pub returns : goal.returns
returns c = rule_called (plain c.args.first.value) (plain c.args.source.value) c.args.function c.in_ok-found.found.1 c.in_ok-found.found.0 c.none-pending.result c.none.result.items c.calls.result c.in_ok-found.ensures.stages c.in_ok-found.ensures.bottom c.in_ok-found.ensures.fresh c.none-pending.ensures c.none.ensures c.calls.ensures
