use Rattle.seq_values.specs.declared.words.Kind.TheVariants as K
use Rattle.seq_values.specs.declared.words.Op.TheVariants as O
use Rattle.ahead_rules.specs.declared.state.AtPart.TheVariants as P
use Rattle.std.proofs.Common.{ap, refl, ◌∙◌, ◌∷◌, []}
use Rattle.seq_values.specs.Plain.{plain}
use Rattle.ahead_rules.proofs.Moves.{part_made}
use Rattle.ahead_rules.proofs.asking.derefs_one_answered.Goals as goal

pub returns : goal.returns
returns c = part_made (P.One c.args.answer) K.Lazy O.Derefs c.in_ok-args.args.items (plain c.args.rest.value ∷ []) _ c.makes_part.result (c.in_ok-args.ensures.stands ∙ ap (λ v. plain v ∷ []) c.proper-source.ensures) refl c.makes_part.ensures
