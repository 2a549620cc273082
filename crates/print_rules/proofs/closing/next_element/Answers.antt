use Rattle.print_rules.proofs.PrintTurns.{elements_end}
use Rattle.print_rules.proofs.closing.next_element.Goals as goal

pub returns-in_ok-printing-in-Nil-clause-goes : goal.returns-in_ok-printing-in-Nil-clause-goes
returns-in_ok-printing-in-Nil-clause-goes c = rw c.in-Nil.is (elements_end c.args.after c.args.printing c.in_ok-printing-in-Nil.printing c.in_ok-printing-in-Nil.ensures.text c.in_ok-printing-in-Nil.ensures.around)

pub returns-in_ok-next-in-At-clause-goes : goal.returns-in_ok-next-in-At-clause-goes
returns-in_ok-next-in-At-clause-goes c = rw c.in-At.is c.in_ok-next-in-At.ensures
