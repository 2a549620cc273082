use Rattle.std.proofs.Common.{sym, ◌∙◌}
use Rattle.print_rules.proofs.PrintTurns.{atom_goes, members_go}
use Rattle.print_rules.proofs.opening.print_value.Goals as goal

pub returns-then-printed : goal.returns-then-printed
returns-then-printed c = atom_goes c.args.value.value c.args.printing c.in_ok-tried.tried.1 c.in_ok-next.next (sym c.in_ok-tried.ensures.printed ∙ c.if-printed.true) c.in_ok-tried.ensures.text c.in_ok-tried.ensures.around c.in_ok-next.ensures

pub returns : goal.returns
returns c = members_go c.args.value.value c.args.printing c.in_ok-tried.tried.1 c.in_ok-next-2.next (sym c.in_ok-tried.ensures.printed ∙ c.if-printed.false) c.in_ok-tried.ensures.text c.in_ok-tried.ensures.around c.in_ok-next-2.ensures
