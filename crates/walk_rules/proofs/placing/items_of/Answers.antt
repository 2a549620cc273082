use Rattle.seq_values.proofs.WellFormedLemmas.{vector_items}
use Rattle.walk_rules.proofs.placing.items_of.Goals as goal

pub invariant_of-result : goal.invariant_of-result
invariant_of-result c = record { well = vector_items c.args.listed.items c.args.listed.depth c.args.listed.well }
