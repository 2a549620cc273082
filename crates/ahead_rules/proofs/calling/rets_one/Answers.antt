use Rattle.std.proofs.Common.{ap, ◌∙◌}
use Rattle.seq_values.specs.Plain.{plain}
use Rattle.seq_plan.specs.Cursors.{stands}
use Rattle.ahead_rules.proofs.Moves.{rets_single}
use Rattle.ahead_rules.proofs.calling.rets_one.Goals as goal

pub returns : goal.returns
returns c = rets_single c.args.function c.proper-rest.result (stands c.args.place) c.in_ok-called.called.value c.in_ok-parts.parts.first.value c.in_ok-args.args.items c.makes_part.result c.in_ok-called.ensures c.in_ok-parts.ensures.first (ap plain c.proper-rest.ensures ∙ c.in_ok-parts.ensures.rest) c.in_ok-args.ensures.stands c.makes_part.ensures
