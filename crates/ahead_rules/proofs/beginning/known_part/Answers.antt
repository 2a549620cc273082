use Rattle.std.proofs.Common.{sym, ◌∙◌}
use Rattle.ahead_rules.proofs.beginning.known_part.Goals as goal

pub unreachable-requires : goal.unreachable-requires
unreachable-requires c = c.requires (sym c.as_part-part.ensures ∙ c.in-None.is)
