use Rattle.seq_values.specs.Plain.{plain}
use Rattle.lazy_rules.proofs.Taking.{takes_same}
use Rattle.lazy_rules.proofs.WordTurns.{range_wrong_begin, pair_same, range_plan}
use Rattle.lazy_rules.proofs.words.range_between.Goals as goal

pub returns-in-None : goal.returns-in-None
returns-in-None c = range_wrong_begin c.args.args.items c.throws.result c.requires (rw c.in-None.is at c.in_ok-counted.ensures.same) c.throws.ensures

pub returns-in-Some : goal.returns-in-Some
returns-in-Some c = takes_same (pair_same range_plan c.args.args.items c.in-Some.counted.count (plain c.in-Some.counted.source.value) (rw c.in-Some.is at c.in_ok-counted.ensures.same)) c.range_from.ensures
