use Rattle.seq_values.specs.Plain.{plain}
use Rattle.stage_tests.proofs.Leading.{still_through}
use Rattle.stage_tests.proofs.standing.walks.Goals as goal

pub stands-requires : goal.stands-requires
stands-requires c = still_through (plain c.args.before.xf.value) c.args.before.stages c.in_ok-after.after c.args.before.through c.in_ok-after.ensures
