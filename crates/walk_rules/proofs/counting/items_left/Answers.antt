use Rattle.std.proofs.Common.{refl}
use Rattle.seq_values.specs.declared.value.Node.TheVariants as N
use Rattle.seq_values.specs.declared.value.Value.TheVariants as V
use Rattle.walk_rules.proofs.Counts.{vector_counts}
use Rattle.walk_rules.proofs.counting.items_left.Goals as goal

pub returns : goal.returns
returns c = vector_counts (V.Node (N.VecSeq c.args.depth c.args.items c.args.at)) c.args.depth c.args.items c.args.at c.items_behind-left.result refl c.items_behind-left.ensures
