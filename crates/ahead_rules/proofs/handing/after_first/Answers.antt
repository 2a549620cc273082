use Rattle.std.proofs.Common.{◌∙◌}
use Rattle.seq_values.specs.Plain.{plain}
use Rattle.ahead_rules.proofs.Sequences.{rest_sequence}
use Rattle.ahead_rules.proofs.handing.after_first.Goals as goal

pub invariant_of-result : goal.invariant_of-result
invariant_of-result c = record { well = c.in_ok-rest.rest.well; sequence = rest_sequence c.args.place (plain c.in_ok-rest.rest.value) (c.in_ok-rest.ensures ∙ c.in_ok-after.ensures) }
