use Rattle.walk_rules.proofs.comparing.after_atoms.Goals as goal

pub returns-else-same : goal.returns-else-same
returns-else-same c = rw c.if-same.false c.unequal.ensures
