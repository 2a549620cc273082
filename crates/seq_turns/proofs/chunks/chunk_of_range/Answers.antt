use Rattle.std.proofs.Common.{ap, ◌∙◌, w64}
use Rattle.std.proofs.lemmas.Int.{to_z-of_z}
use Rattle.seq_values.specs.Plain.{plain, plains}
use Rattle.seq_turns.proofs.Spans.{of_range}
use Rattle.seq_turns.proofs.chunks.chunk_of_range.Goals as goal

pub returns : goal.returns
returns c =
    of_range c.args.size c.count_of_range-count.result c.args.from c.args.at c.args.end _ _ _ (plains c.in_ok-items.items.items) (plain c.rest_of_range-rest.result.value)
    (to_z-of_z w64 c.args.from c.ranges.from) (to_z-of_z w64 c.args.at c.ranges.at) (to_z-of_z w64 c.args.end c.ranges.end)
    c.count_of_range-count.ensures.count c.count_of_range-count.ensures.stop (ap plains c.in_ok-items.ensures ∙ c.in_ok-all.ensures) c.rest_of_range-rest.ensures
