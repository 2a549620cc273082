use Rattle.std.proofs.Common.{[], ◌∷◌, ◌++◌, ap, ◌∙◌}
use Rattle.print_rules.specs.declared.state.Around.TheVariants as A
use Rattle.print_rules.proofs.PrintTurns.{element_goes}
use Rattle.print_rules.proofs.closing.print_element.Goals as goal

pub returns : goal.returns
returns c = element_goes c.args.after c.args.place c.args.printing c.in_ok-printing-2.printing c.in_ok-split.split.first c.in_ok-split.split.rest c.visits.result c.in_ok-split.ensures.first c.in_ok-split.ensures.rest (c.in_ok-printing-2.ensures.text ∙ c.in_ok-printing.ensures.text) (c.in_ok-printing-2.ensures.around ∙ ap (λ others. others ++ A.Elements c.in_ok-split.split.rest ∷ []) c.in_ok-printing.ensures.around) c.visits.ensures
