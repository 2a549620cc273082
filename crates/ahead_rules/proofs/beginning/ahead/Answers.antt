use Rattle.std.proofs.Common.{◌∷◌, []}
use Rattle.seq_values.specs.declared.words.Op.TheVariants as O
use Rattle.ahead_rules.proofs.Moves.{term_of_args}
use Rattle.ahead_rules.proofs.beginning.ahead.Goals as goal

pub returns : goal.returns
returns c = λ size. term_of_args size O.Ahead c.args.args.now.items (c.in_ok-pair.pair.0.value ∷ c.in_ok-pair.pair.1.value ∷ []) c.in_ok-next.next c.in_ok-pair.ensures (c.in_ok-next.ensures size)
