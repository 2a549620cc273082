use Rattle.std.proofs.Common.{◌+◌, [], ◌∷◌, ◌++◌, ap, ◌∙◌}
use Rattle.print_rules.specs.declared.state.Around.TheVariants as A
use Rattle.print_rules.proofs.PrintTurns.{item_goes}
use Rattle.print_rules.proofs.closing.print_item.Goals as goal

pub returns : goal.returns
returns c = item_goes c.args.printing c.in_ok-printing-2.printing (c.args.printing.text ++ c.args.before.now) c.args.items c.args.at c.in_ok-value.value c.visits.result c.in_ok-value.ensures (c.in_ok-printing-2.ensures.text ∙ c.in_ok-printing.ensures.text) (c.in_ok-printing-2.ensures.around ∙ ap (λ others. others ++ A.Items c.args.items (c.args.at + 1) ∷ []) c.in_ok-printing.ensures.around) c.visits.ensures
