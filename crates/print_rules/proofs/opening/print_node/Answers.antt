use Rattle.seq_turns.proofs.Taking.{takes_same}
use Rattle.print_rules.specs.Left.{prints, resolved}
use Rattle.print_rules.proofs.PrintTurns.{node_on}
use Rattle.print_rules.proofs.opening.print_node.Goals as goal

pub returns : goal.returns
returns c = takes_same prints (node_on c.args.printing.text c.args.node (resolved c.args.printing)) c.in_ok-next.ensures
