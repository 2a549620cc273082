use Rattle.std.proofs.Common.{◌≡◌, length}
use Rattle.seq_values.specs.Plain.{plains}
use Rattle.seq_plan.specs.Nodes.{ints_from}
use Rattle.seq_turns.proofs.chunks.integers.Given as goal

abbrev pub invariant-loop-done : goal.invariant-loop-done
invariant-loop-done l = record { long : length l.all.items.items ≡ l.done; same : plains l.all.items.items ≡ ints_from l.fn.at l.done }
