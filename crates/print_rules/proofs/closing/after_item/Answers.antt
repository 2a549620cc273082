use Rattle.std.proofs.Common.{drop, arith, length-drop}
use Rattle.print_rules.specs.Left.{prints, resolved}
use Rattle.seq_turns.proofs.Taking.{takes_same}
use Rattle.print_rules.proofs.PrintTurns.{items_more, items_end}
use Rattle.print_rules.proofs.closing.after_item.Goals as goal

pub returns-then-at-len-clause-goes : goal.returns-then-at-len-clause-goes
returns-then-at-len-clause-goes c = takes_same prints (items_more (drop c.args.at c.args.items.items) c.args.printing.text (resolved c.args.printing) (omega (arith, length-drop c.args.at c.args.items.items, c.len.ensures, c.if-at-len.true))) c.in_ok-next.ensures

pub returns-clause-goes : goal.returns-clause-goes
returns-clause-goes c = items_end (drop c.args.at c.args.items.items) c.args.printing c.in_ok-printing.printing (omega (arith, length-drop c.args.at c.args.items.items, c.len.ensures, c.if-at-len.false)) c.in_ok-printing.ensures.text c.in_ok-printing.ensures.around
