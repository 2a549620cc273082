use Rattle.pull_rules.proofs.PullTurns.{asks_of}
use Rattle.pull_rules.proofs.pulling.ends_goes.Goals as goal

pub asks_ends-requires : goal.asks_ends-requires
asks_ends-requires c = asks_of c.args.turn c.in-Asks.next c.in-Asks.is c.requires

pub returns-in-Asks : goal.returns-in-Asks
returns-in-Asks c = rw c.in-Asks.is c.asks_ends.ensures

pub returns-in-Throw : goal.returns-in-Throw
returns-in-Throw c = rw c.in-Throw.is c.throws.ensures

pub returns-in-Rest : goal.returns-in-Rest
returns-in-Rest c = rw c.in-Rest.is c.gives_outputs.ensures
