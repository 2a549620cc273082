use Rattle.seq_turns.proofs.Taking.{in_ok}
use Rattle.seq_turns.specs.Seen.{seen}
use Rattle.seq_values.specs.Plain.{plain}
use Rattle.print_rules.specs.Left.{prints}
use Rattle.print_rules.proofs.PrintTurns.{elements_found, elements_asked}
use Rattle.print_rules.proofs.opening.print_elements.Goals as goal

pub returns-in-Now : goal.returns-in-Now
returns-in-Now c = in_ok prints c.elements_at.result (λ n h. elements_found c.args.printing c.in_ok-printing.printing (plain c.args.value.value) (seen c.in-Now.what) n c.in_ok-printing.ensures.text c.in_ok-printing.ensures.around (rw c.in-Now.is at c.seek.ensures) h) c.elements_at.ensures

pub returns-in-Ask : goal.returns-in-Ask
returns-in-Ask c = elements_asked c.args.printing c.in_ok-printing.printing (plain c.in-Ask.value.value) (plain c.args.value.value) c.ask_elements.result c.in_ok-printing.ensures.text c.in_ok-printing.ensures.around (rw c.in-Ask.is at c.seek.ensures).0 c.ask_elements.ensures
