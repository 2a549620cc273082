use Rattle.std.proofs.Common.{subst}
use Rattle.pull_rules.specs.Reducing.{IsReductionAsked}
use Rattle.fold_rules.proofs.reducing.reduction_goes.Goals as goal

pub asks-requires : goal.asks-requires
asks-requires c = subst IsReductionAsked c.in-Asks.is c.requires

pub returns-in-Asks : goal.returns-in-Asks
returns-in-Asks c = rw c.in-Asks.is c.asks.ensures

pub returns-in-Throw : goal.returns-in-Throw
returns-in-Throw c = rw c.in-Throw.is c.stops.ensures

pub returns-in-Rest : goal.returns-in-Rest
returns-in-Rest c = rw c.in-Rest.is c.is_through.ensures
