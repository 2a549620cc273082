use Rattle.std.proofs.Common.{◌∷◌, []}
use Rattle.seq_values.specs.declared.words.Op.TheVariants as O
use Rattle.ahead_rules.proofs.Moves.{term_of_args}
use Rattle.ahead_rules.proofs.beginning.derefs.Goals as goal

pub returns : goal.returns
returns c = term_of_args c.args.chunk O.Derefs c.args.args.now.items (c.in_ok-source.source.value ∷ []) c.in_ok-next.next c.in_ok-source.ensures c.in_ok-next.ensures
