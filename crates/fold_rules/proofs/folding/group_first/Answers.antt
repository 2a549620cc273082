use Rattle.seq_values.specs.Model as M
use Rattle.seq_values.specs.Plain.{plain, plains}
use Rattle.fold_rules.proofs.Foldings.{first_asked}
use Rattle.fold_rules.proofs.folding.group_first.Goals as goal

pub returns : goal.returns
returns c = first_asked (plain c.args.combine.value) c.args.stages c.args.function c.vector-source.result c.args.pending c.none.result.items (M.vector (M.values (plains c.args.items.items))) c.calls.result c.vector-source.ensures.stands c.none.ensures c.calls.ensures
