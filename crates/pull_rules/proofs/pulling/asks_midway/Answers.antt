use Rattle.std.proofs.Common.{refl}
use Rattle.pull_rules.proofs.PullTurns.{midway_waits}
use Rattle.pull_rules.proofs.pulling.asks_midway.Goals as goal

pub returns : goal.returns
returns c = midway_waits c.args.next c.args.pull c.args.rest _ refl refl refl c.requires.asked
