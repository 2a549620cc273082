use Rattle.std.proofs.Common.{◌∷◌, []}
use Rattle.seq_values.specs.declared.words.Builtin.TheVariants as B
use Rattle.ahead_rules.proofs.Moves.{call_of_args, pmap_misfit}
use Rattle.ahead_rules.proofs.beginning.pmap.Goals as goal

pub returns-in-None : goal.returns-in-None
returns-in-None c = pmap_misfit c.args.processors c.args.args.now.items c.throws.result (rw c.in-None.is at c.in_ok-pair.ensures) c.throws.ensures

pub returns-in_ok-next-in-Some : goal.returns-in_ok-next-in-Some
returns-in_ok-next-in-Some c = call_of_args c.args.processors B.Pmap c.args.args.now.items (c.in-Some.pair.0.value ∷ c.in-Some.pair.1.value ∷ []) c.in_ok-next-in-Some.next (rw c.in-Some.is at c.in_ok-pair.ensures) c.in_ok-next-in-Some.ensures
