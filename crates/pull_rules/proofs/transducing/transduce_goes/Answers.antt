use Rattle.std.proofs.Common.{subst}
use Rattle.pull_rules.specs.Reducing.{IsReductionAsked}
use Rattle.pull_rules.proofs.transducing.transduce_goes.Goals as goal

pub asks_over-requires : goal.asks_over-requires
asks_over-requires c = subst IsReductionAsked c.in-Asks.is c.requires

pub returns-in-Asks : goal.returns-in-Asks
returns-in-Asks c = rw c.in-Asks.is c.asks_over.ensures

pub returns-in-Throw : goal.returns-in-Throw
returns-in-Throw c = rw c.in-Throw.is c.throws.ensures

pub returns-in-Rest : goal.returns-in-Rest
returns-in-Rest c = rw c.in-Rest.is c.completes.ensures
