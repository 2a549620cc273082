use Rattle.seq_values.specs.Plain.{plain}
use Rattle.fold_rules.proofs.Foldings.{answer_asked}
use Rattle.fold_rules.proofs.folding.no_items.Goals as goal

pub returns : goal.returns
returns c = answer_asked (plain c.args.fold.combine.value) c.args.pending c.none.result.items c.calls.result c.none.ensures c.calls.ensures
