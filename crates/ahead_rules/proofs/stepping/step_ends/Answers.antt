use Rattle.seq_values.specs.declared.words.Kind.TheVariants as K
use Rattle.seq_values.specs.declared.words.Op.TheVariants as O
use Rattle.ahead_rules.specs.declared.state.AtPart.TheVariants as P
use Rattle.std.proofs.Common.{refl, ap, ◌∙◌, ◌∷◌, []}
use Rattle.seq_values.specs.Plain.{plain}
use Rattle.ahead_rules.proofs.Moves.{part_made}
use Rattle.ahead_rules.proofs.stepping.step_ends.Goals as goal

pub returns : goal.returns
returns c = part_made (P.Cell) K.Lazy O.Derefs c.in_ok-args.args.items (plain c.args.values.value ∷ []) _ c.makes_part.result (c.in_ok-args.ensures.stands ∙ ap (λ v. plain v ∷ []) c.proper-source.ensures) refl c.makes_part.ensures
