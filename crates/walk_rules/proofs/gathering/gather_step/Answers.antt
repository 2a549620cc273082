use Rattle.walk_rules.proofs.Gathers.{gather_steps}
use Rattle.walk_rules.proofs.gathering.gather_step.Goals as goal

pub returns-in_ok-resume-in-All : goal.returns-in_ok-resume-in-All
returns-in_ok-resume-in-All c = gather_steps c.args.kept c.in-All.kept c.args.purpose c.args.place c.in_ok-split.split.first c.in_ok-split.split.rest c.in_ok-resume-in-All.field-0 c.in_ok-split.ensures.first c.in_ok-split.ensures.rest (rw c.in-All.is at c.in_ok-kept.ensures) c.in_ok-resume-in-All.ensures
