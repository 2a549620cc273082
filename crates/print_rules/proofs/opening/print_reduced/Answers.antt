use Rattle.print_rules.proofs.PrintTurns.{reduced_goes}
use Rattle.print_rules.proofs.opening.print_reduced.Goals as goal

pub returns : goal.returns
returns c = reduced_goes c.args.printing c.in_ok-printing.printing c.args.held c.in_ok-value.value c.visits.result c.in_ok-value.ensures c.in_ok-printing.ensures.text c.in_ok-printing.ensures.around c.visits.ensures
