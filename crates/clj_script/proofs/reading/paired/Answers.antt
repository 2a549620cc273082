use Rattle.std.proofs.Common.{arith}
use Rattle.std.proofs.lemmas.Bool.Decides.{nat_tests}
use Rattle.clj_script.proofs.PairLemmas.{none_paired, one_pair, all_paired, one_left}
use Rattle.clj_script.proofs.reading.paired.Goals as goal

pub loop-rest-init : goal.loop-rest-init
loop-rest-init c = none_paired _ _ c.new-pairs.ensures.items

pub loop-rest-preserved : goal.loop-rest-preserved
loop-rest-preserved c = one_pair _ c.loop-rest.rest.now c.loop-rest.pairs.items _ c.loop-rest.invariant c.in-len2-up.len_at_least c.in_ok-push.ensures.items

pub returns-then-is_empty-clause-pairs : goal.returns-then-is_empty-clause-pairs
returns-then-is_empty-clause-pairs c = all_paired _ c.loop-rest.rest.now _ c.loop-rest.invariant (grind (arith, nat_tests, c.is_empty.ensures, c.if-is_empty.true))

pub returns-then-is_empty-clause-below : goal.returns-then-is_empty-clause-below
returns-then-is_empty-clause-below c = λ bound b. (c.loop-rest.invariant.below bound b).0

pub returns-else-is_empty-clause-pairs : goal.returns-else-is_empty-clause-pairs
returns-else-is_empty-clause-pairs c = one_left _ c.loop-rest.rest.now _ c.loop-rest.invariant (grind (arith, nat_tests, c.is_empty.ensures, c.if-is_empty.false))
