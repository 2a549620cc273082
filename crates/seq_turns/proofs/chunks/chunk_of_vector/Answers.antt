use Rattle.std.proofs.Common.{ap, ◌∙◌}
use Rattle.seq_values.specs.Plain.{plain}
use Rattle.seq_plan.specs.Nodes.{vector_stop}
use Rattle.seq_turns.proofs.Spans.{of_vector}
use Rattle.seq_turns.proofs.chunks.chunk_of_vector.Goals as goal

pub returns : goal.returns
returns c = of_vector c.args.size c.args.depth c.args.items c.args.at c.stop_of_vector-stop.result c.in_ok-part.part.items (plain c.vector_from-rest.result.value) (c.stop_of_vector-stop.ensures.stop ∙ ap (vector_stop c.args.size c.args.at) c.len.ensures.same) c.in_ok-part.ensures c.vector_from-rest.ensures
