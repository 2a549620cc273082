use Rattle.std.proofs.Common.{reverse}
use Rattle.clj_script.proofs.TaskLemmas.{PushesLooks, seen_by}
use Rattle.clj_script.proofs.task.push_looks.Given as goal

abbrev pub invariant-loop-item : goal.invariant-loop-item
invariant-loop-item l = PushesLooks l.fn.tasks.items l.tasks.items (reverse (seen_by l.yielded))
