use Rattle.seq_values.specs.declared.words.Kind.TheVariants as K
use Rattle.seq_values.specs.declared.words.Op.TheVariants as O
use Rattle.ahead_rules.specs.declared.state.AtPart.TheVariants as P
use Rattle.std.proofs.Common.{refl, ◌∙◌, ◌∷◌, []}
use Rattle.seq_values.specs.Plain.{plain}
use Rattle.ahead_rules.proofs.Moves.{part_made}
use Rattle.ahead_rules.proofs.taking.seque_made.Goals as goal

pub returns : goal.returns
returns c = part_made (P.Cell) K.Lazy O.Near c.in_ok-args.args.items _ _ c.makes_part.result (c.in_ok-args.ensures.stands ∙ (λ i. plain c.args.source.value ∷ c.of_part-part.ensures.stands i ∷ [])) refl c.makes_part.ensures
