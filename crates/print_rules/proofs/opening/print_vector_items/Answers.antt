use Rattle.std.proofs.Common.{arith}
use Rattle.seq_turns.proofs.Taking.{takes_same}
use Rattle.print_rules.specs.Left.{prints, resolved}
use Rattle.print_rules.proofs.PrintTurns.{vector_opens, vector_empty}
use Rattle.print_rules.proofs.opening.print_vector_items.Goals as goal

pub returns-then-len-gt0 : goal.returns-then-len-gt0
returns-then-len-gt0 c = takes_same prints (vector_opens c.args.items.items c.args.printing.text (resolved c.args.printing) (omega (arith, c.len.ensures, c.if-len-gt0.true))) c.in_ok-next.ensures

pub returns : goal.returns
returns c = vector_empty c.args.items.items c.args.printing c.in_ok-printing.printing c.in_ok-next-2.next (omega (arith, c.len.ensures, c.if-len-gt0.false)) c.in_ok-printing.ensures.text c.in_ok-printing.ensures.around c.in_ok-next-2.ensures
