use Rattle.std.proofs.Common.{refl}
use Rattle.lazy_rules.proofs.Taking.{ok_same}
use Rattle.lazy_rules.proofs.BeginTurns.{pair_begins, cycle_misfit}
use Rattle.seq_values.specs.declared.words.Op.TheVariants as O
use Rattle.lazy_rules.proofs.beginning.cycle_begins.Goals as goal

pub returns-in-None : goal.returns-in-None
returns-in-None c = cycle_misfit c.args.chunk c.args.args.items c.throws.result (rw c.in-None.is at c.in_ok-pair.ensures) c.throws.ensures

pub returns-in-Some : goal.returns-in-Some
returns-in-Some c = ok_same c.start.result (pair_begins c.args.chunk O.Cycle c.args.args.items c.in-Some.pair.0.value c.in-Some.pair.1.value _ (rw c.in-Some.is at c.in_ok-pair.ensures) refl) c.start.ensures
