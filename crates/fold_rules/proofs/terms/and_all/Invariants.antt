use Rattle.std.proofs.Common.{◌-◌, length}
use Rattle.fold_rules.proofs.FoldTerms.{Joined}
use Rattle.fold_rules.proofs.terms.and_all.Given as goal

abbrev pub invariant-loop-at : goal.invariant-loop-at
invariant-loop-at l = record { found : Joined l.fn.before.items.items l.more.items l.all.items.items l.at }

abbrev pub decreases-loop-at : goal.decreases-loop-at
decreases-loop-at l = length l.more.items - l.at
