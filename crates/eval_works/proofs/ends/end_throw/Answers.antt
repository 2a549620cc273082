use Rattle.eval_frames.specs.Frames.{ground}
use Rattle.eval_works.specs.Standing.{basis}
use Rattle.eval_works.proofs.ends.end_throw.Goals as goal

pub returns-clause-law : goal.returns-clause-law
returns-clause-law g c = c.end.ensures.law (basis (ground g.R.Rule.running g.R.Rules.table c.args.code.now) c.args.limit) c.args.left c.requires.law c.requires.run

pub returns-clause-names : goal.returns-clause-names
returns-clause-names g c = c.end.ensures.names (basis (ground g.R.Rule.running g.R.Rules.table c.args.code.now) c.args.limit) c.args.left c.requires.run
