use Rattle.ahead_rules.proofs.beginning.only_argument.Goals as goal

pub unreachable-requires : goal.unreachable-requires
unreachable-requires c = (rw c.in-None.is at c.in_ok-value.ensures) c.requires
