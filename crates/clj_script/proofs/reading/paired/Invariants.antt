use Rattle.std.proofs.Common.{length}
use Rattle.clj_script.proofs.PairLemmas.{ArePaired}
use Rattle.clj_script.proofs.reading.paired.Given as goal

abbrev pub invariant-loop-rest : goal.invariant-loop-rest
invariant-loop-rest l = ArePaired l.items l.rest l.pairs.items

abbrev pub decreases-loop-rest : goal.decreases-loop-rest
decreases-loop-rest l = length l.rest
