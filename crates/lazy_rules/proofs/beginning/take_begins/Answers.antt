use Rattle.std.proofs.Common.{refl}
use Rattle.seq_values.specs.Plain.{plain}
use Rattle.lazy_rules.proofs.Taking.{ok_same}
use Rattle.lazy_rules.proofs.BeginTurns.{counted_begins, take_misfit}
use Rattle.seq_values.specs.declared.words.Op.TheVariants as O
use Rattle.lazy_rules.proofs.beginning.take_begins.Goals as goal

pub returns-in-None : goal.returns-in-None
returns-in-None c = take_misfit c.args.chunk c.args.args.items c.throws.result (rw c.in-None.is at c.in_ok-counted.ensures.same) c.throws.ensures

pub returns-in-Some : goal.returns-in-Some
returns-in-Some c = ok_same c.take_counted.result (counted_begins c.args.chunk O.Take c.args.args.items c.in-Some.counted.count (plain c.in-Some.counted.source.value) _ (rw c.in-Some.is at c.in_ok-counted.ensures.same) refl) c.take_counted.ensures
