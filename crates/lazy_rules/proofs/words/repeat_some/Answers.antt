use Rattle.seq_values.specs.Plain.{plain}
use Rattle.lazy_rules.proofs.Taking.{ok_same}
use Rattle.lazy_rules.proofs.WordTurns.{pair_same, repeat_wrong_count, repeat_plan}
use Rattle.lazy_rules.proofs.words.repeat_some.Goals as goal

pub returns-in-None : goal.returns-in-None
returns-in-None c = repeat_wrong_count c.args.args.items c.throws.result c.requires (rw c.in-None.is at c.in_ok-counted.ensures.same) c.throws.ensures

pub returns-in-Some : goal.returns-in-Some
returns-in-Some c = ok_same c.repeat_counted.result (pair_same repeat_plan c.args.args.items c.in-Some.counted.count (plain c.in-Some.counted.source.value) (rw c.in-Some.is at c.in_ok-counted.ensures.same)) c.repeat_counted.ensures
