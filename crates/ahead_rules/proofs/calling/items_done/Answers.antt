use Rattle.std.proofs.Common.{ap}
use Rattle.seq_values.specs.Model as M
use Rattle.seq_values.specs.Plain.{plains}
use Rattle.seq_plan.specs.Nodes.{give_value, with_items, make_term}
use Rattle.seq_values.specs.declared.words.Kind.TheVariants.{Lazy}
use Rattle.seq_turns.proofs.Taking.{takes_same}
use Rattle.ahead_rules.specs.Left.{running}
use Rattle.ahead_rules.proofs.calling.items_done.Goals as goal

pub returns : goal.returns
returns c = takes_same running (ap (λ ys. make_term Lazy c.args.op (plains c.args.args.items) (λ m. give_value (with_items (M.values (plains ys)) (M.cell m)))) c.in_ok-items.ensures) c.makes_part.ensures
