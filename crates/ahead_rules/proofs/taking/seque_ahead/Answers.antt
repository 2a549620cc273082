use Rattle.seq_values.specs.declared.words.Kind.TheVariants as K
use Rattle.seq_values.specs.declared.words.Op.TheVariants as O
use Rattle.ahead_rules.specs.declared.state.AtPart.TheVariants as P
use Rattle.std.proofs.Common.{refl, ap, ◌∙◌, ◌∷◌, [], w64}
use Rattle.std.proofs.lemmas.Int.{to_z-of_z}
use Rattle.seq_values.specs.Model as M
use Rattle.seq_values.specs.Plain.{plain}
use Rattle.ahead_rules.proofs.Moves.{part_made, ahead_fits}
use Rattle.ahead_rules.proofs.taking.seque_ahead.Goals as goal

pub returns : goal.returns
returns c = part_made (P.Seque c.args.source) K.Future O.Ahead c.in_ok-args.args.items _ _ c.makes_part.result (c.in_ok-args.ensures.stands ∙ (λ i. (c.of_int-number.ensures.stands ∙ ap M.int (to_z-of_z w64 c.args.count c.ranges.count)) i ∷ plain (c.in_ok-taken.ensures i) ∷ [])) refl c.makes_part.ensures

pub makes_part-requires : goal.makes_part-requires
makes_part-requires c = ahead_fits c.args.count c.of_int-number.result.value c.in_ok-taken.taken.value c.in_ok-args.args.items c.requires (c.of_int-number.ensures.stands ∙ ap M.int (to_z-of_z w64 c.args.count c.ranges.count)) c.in_ok-args.ensures.stands
