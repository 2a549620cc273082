use Rattle.ahead_rules.proofs.beginning.two_arguments.Goals as goal

pub unreachable-requires : goal.unreachable-requires
unreachable-requires c = (rw c.in-None.is at c.in_ok-pair.ensures) c.requires
