use Rattle.reducer_values.proofs.Stages.{first_shallow}
use Rattle.reducer_values.proofs.layers.stage_layer.Goals as goal

pub stage_made-requires-clause-shallow : goal.stage_made-requires-clause-shallow
stage_made-requires-clause-shallow c = first_shallow c.args.function c.in-Some.first.value c.in-Some.inner.value (rw c.in-Some.is at c.in_ok-pair.ensures) c.requires.well
