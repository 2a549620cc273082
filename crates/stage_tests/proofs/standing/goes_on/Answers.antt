use Rattle.seq_values.specs.Plain.{plain}
use Rattle.stage_tests.proofs.Leading.{same_kept}
use Rattle.stage_tests.proofs.standing.goes_on.Goals as goal

pub given_back-requires : goal.given_back-requires
given_back-requires c = same_kept (plain c.args.xf.value) c.args.old c.args.fresh c.requires.before c.requires.after
