use Rattle.seq_values.specs.Plain.{plain}
use Rattle.fold_rules.proofs.Reductions.{rule_reduces}
use Rattle.fold_rules.proofs.reducing.reduces_all.Goals as goal

pub returns : goal.returns
returns c = rule_reduces (plain c.args.function.value) (plain c.args.answer.value) (plain c.args.source.value) (plain c.in_ok-found.found.1.value) c.in_ok-found.found.0 c.none-none.result c.in_ok-next.next c.in_ok-found.ensures.stages c.in_ok-found.ensures.bottom c.in_ok-found.ensures.fresh c.none-none.ensures c.in_ok-next.ensures
