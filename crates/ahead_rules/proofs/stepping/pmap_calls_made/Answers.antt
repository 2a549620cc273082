use Rattle.seq_values.specs.declared.words.Kind.TheVariants as K
use Rattle.seq_values.specs.declared.words.Op.TheVariants as O
use Rattle.ahead_rules.specs.declared.state.AtPart.TheVariants as P
use Rattle.std.proofs.Common.{refl, ◌∙◌, ◌∷◌, []}
use Rattle.ahead_rules.proofs.Moves.{part_made}
use Rattle.ahead_rules.proofs.stepping.pmap_calls_made.Goals as goal

pub returns : goal.returns
returns c = part_made (P.PmapDrop c.args.id) K.Lazy O.Drop c.in_ok-args.args.items _ _ c.makes_part.result (c.in_ok-args.ensures.stands ∙ (λ i. c.calls_ahead-count.ensures i ∷ c.of_part-part.ensures.stands i ∷ [])) refl c.makes_part.ensures
