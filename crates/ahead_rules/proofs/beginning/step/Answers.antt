use Rattle.std.proofs.Common.{◌∷◌, []}
use Rattle.seq_values.specs.declared.words.Op.TheVariants as O
use Rattle.ahead_rules.proofs.Fits.{step_four, four_read}
use Rattle.ahead_rules.proofs.Moves.{term_of_args}
use Rattle.ahead_rules.proofs.beginning.step.Goals as goal

pub returns : goal.returns
returns c =
    let e = four_read c.args.args.now.items c.in_ok-element.element.value c.in_ok-others.others.value c.in_ok-values.values.value c.in_ok-further.further.value (step_four c.args.args.now.items c.requires) c.in_ok-element.ensures c.in_ok-others.ensures c.in_ok-values.ensures c.in_ok-further.ensures in
    λ size. term_of_args size O.Step c.args.args.now.items (c.in_ok-element.element.value ∷ c.in_ok-others.others.value ∷ c.in_ok-values.values.value ∷ c.in_ok-further.further.value ∷ []) c.in_ok-next.next e c.in_ok-next.ensures
