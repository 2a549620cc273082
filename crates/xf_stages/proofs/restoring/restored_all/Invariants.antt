use Rattle.std.proofs.Common.{length, drop, reverse}
use Rattle.seq_values.specs.Plain.{plains}
use Rattle.xf_stages.proofs.RestoreTurns.{Restoring}
use Rattle.xf_stages.proofs.restoring.restored_all.Given as goal

abbrev pub invariant-loop-done : goal.invariant-loop-done
invariant-loop-done l = record { restoring : Restoring (reverse l.fn.stages.items) (plains (drop l.fn.at l.args.items)) l.done.items l.todo.items (plains (drop l.here l.args.items)) }

abbrev pub decreases-loop-done : goal.decreases-loop-done
decreases-loop-done l = length l.todo.items
