use Rattle.seq_values.specs.Plain.{plain}
use Rattle.pull_rules.proofs.PullTurns.{asks_of, asked_through}
use Rattle.pull_rules.proofs.pulling.pull_goes.Goals as goal

pub asks_midway-requires-clause-asked : goal.asks_midway-requires-clause-asked
asks_midway-requires-clause-asked c = asks_of c.args.turn c.in-Asks.next c.in-Asks.is c.requires.asked

pub asks_midway-requires-clause-through : goal.asks_midway-requires-clause-through
asks_midway-requires-clause-through c = asked_through (plain c.args.pull.transducer.value) c.args.turn c.in-Asks.next c.in-Asks.is c.requires.through

pub returns-in-Asks : goal.returns-in-Asks
returns-in-Asks c = rw c.in-Asks.is c.asks_midway.ensures

pub returns-in-Throw : goal.returns-in-Throw
returns-in-Throw c = rw c.in-Throw.is c.stopped.ensures

pub returns-in-Rest : goal.returns-in-Rest
returns-in-Rest c = rw c.in-Rest.is c.pulled.ensures
