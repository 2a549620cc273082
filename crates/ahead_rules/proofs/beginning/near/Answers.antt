use Rattle.std.proofs.Common.{◌∷◌, []}
use Rattle.seq_values.specs.declared.words.Op.TheVariants as O
use Rattle.std.proofs.Common.{ap, sym, ◌∙◌}
use Rattle.seq_values.specs.Model as M
use Rattle.seq_values.specs.Plain.{plains}
use Rattle.seq_plan.specs.WellFormed.{sights}
use Rattle.seq_values.specs.WellFormedTerms.{takes}
use Rattle.ahead_rules.proofs.Moves.{term_of_args}
use Rattle.ahead_rules.proofs.beginning.near.Goals as goal

pub returns : goal.returns
returns c = λ size. term_of_args size O.Near c.args.args.now.items (c.in_ok-pair.pair.0.value ∷ c.in_ok-pair.pair.1.value ∷ []) c.in_ok-next.next c.in_ok-pair.ensures (c.in_ok-next.ensures size)

pub near_of-requires : goal.near_of-requires
near_of-requires c = ap (λ l. takes O.Near (sights (M.values (plains l)))) (sym c.in_ok-pair.ensures) ∙ c.requires
