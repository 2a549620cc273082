use Rattle.std.proofs.Common.{sym}
use Rattle.seq_turns.proofs.Taking.{in_ok, takes_same}
use Rattle.seq_values.specs.Plain.{plain}
use Rattle.print_rules.specs.Left.{prints, resolved}
use Rattle.print_rules.proofs.PrintTurns.{vector_on, reduced_on, cell_on}
use Rattle.seq_values.proofs.WellFormedLemmas.{vector_in}
use Rattle.print_rules.proofs.opening.print_members.Goals as goal

pub returns-in-Vector : goal.returns-in-Vector
returns-in-Vector c = rw c.in-Vector.is (in_ok prints c.print_vector_items.result (λ n h. takes_same prints (sym (vector_on c.in-Vector.depth c.in-Vector.items c.args.printing.text (resolved c.args.printing))) h) c.print_vector_items.ensures)

pub returns-in-Reduced : goal.returns-in-Reduced
returns-in-Reduced c = rw c.in-Reduced.is (in_ok prints c.print_reduced.result (λ n h. takes_same prints (reduced_on c.in-Reduced.depth c.in-Reduced.value c.args.printing.text (resolved c.args.printing)) h) c.print_reduced.ensures)

pub returns-in-Cell : goal.returns-in-Cell
returns-in-Cell c = rw c.in-Cell.is (in_ok prints c.print_elements.result (λ n h. takes_same prints (cell_on c.args.printing.text c.in-Cell.id (plain c.of_part.result.value) (resolved c.args.printing) c.of_part.ensures.stands) h) c.print_elements.ensures)

pub invariant_of-print_vector_items : goal.invariant_of-print_vector_items
invariant_of-print_vector_items c = record { well = vector_in c.args.value c.in-Vector.items c.in-Vector.depth c.in-Vector.is c.requires.well }
