use Rattle.std.proofs.Common.{true, ap}
use Rattle.seq_plan.specs.Plan.{seq}
use Rattle.seq_values.specs.Model as M
use Rattle.seq_turns.specs.Turning.{arrives, finds}
use Rattle.seq_turns.proofs.Taking.{takes_same}
use Rattle.print_rules.specs.Left.{elements_from, prints, resolved}
use Rattle.print_rules.proofs.PrintTurns.{ok_from}
use Rattle.print_rules.proofs.closing.after_element.Goals as goal

pub returns-in-Now-clause-goes : goal.returns-in-Now-clause-goes
returns-in-Now-clause-goes c = ok_from c.next_element.result (finds (rw c.in-Now.is at c.seek_rest.ensures) arrives) c.next_element.ensures.goes

pub returns-in-Ask-clause-goes : goal.returns-in-Ask-clause-goes
returns-in-Ask-clause-goes c = takes_same prints (ap (λ v. seq v (λ u. elements_from (M.text c.args.printing.text) true u (resolved c.args.printing))) (rw c.in-Ask.is at c.seek_rest.ensures).0) c.ask_elements.ensures
