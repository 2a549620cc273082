use Rattle.std.proofs.Common.{ap, ◌∙◌}
use Rattle.seq_values.specs.Plain.{plain}
use Rattle.ahead_rules.proofs.Moves.{near_takes}
use Rattle.ahead_rules.proofs.taking.near_place.Goals as goal

pub returns : goal.returns
returns c = near_takes c.args.ahead c.args.place c.in_ok-parts.parts.first c.proper-rest.result c.of_part-part.result.value c.in_ok-args.args.items c.makes_part.result c.in_ok-parts.ensures.first (ap plain c.proper-rest.ensures ∙ c.in_ok-parts.ensures.rest) c.of_part-part.ensures.stands c.in_ok-args.ensures.stands c.makes_part.ensures
