use Rattle.std.proofs.Common.{◌∷◌, []}
use Rattle.seq_values.specs.declared.words.Op.TheVariants as O
use Rattle.ahead_rules.proofs.Moves.{term_of_args}
use Rattle.ahead_rules.proofs.beginning.ahead_of.Goals as goal

pub returns : goal.returns
returns c = λ size. term_of_args size O.AheadOf c.args.args.now.items (c.in_ok-before.before.value ∷ []) c.ahead_of_begins.result c.in_ok-before.ensures c.ahead_of_begins.ensures
