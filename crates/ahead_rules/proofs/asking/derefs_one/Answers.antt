use Rattle.std.proofs.Common.{sym, ◌∙◌}
use Rattle.seq_plan.specs.Cursors.{stands}
use Rattle.ahead_rules.proofs.Moves.{derefs_single, derefs_no_single}
use Rattle.ahead_rules.proofs.asking.derefs_one.Goals as goal

pub returns-in-None : goal.returns-in-None
returns-in-None c = derefs_no_single (stands c.args.place) c.in_ok-parts.parts.first.value c.no_part.result c.in_ok-parts.ensures.first (sym c.as_part-part.ensures ∙ c.in-None.is) c.no_part.ensures

pub returns-in-Some : goal.returns-in-Some
returns-in-Some c = derefs_single c.in_ok-parts.parts.rest (stands c.args.place) c.in_ok-parts.parts.first.value c.in-Some.id c.needs.result c.in_ok-parts.ensures.first c.in_ok-parts.ensures.rest (sym c.as_part-part.ensures ∙ c.in-Some.is) c.needs.ensures
