use Rattle.std.proofs.Common.{reverse}
use Rattle.clj_script.proofs.TaskLemmas.{PushesBindings, seen_by}
use Rattle.clj_script.proofs.task.push_bindings.Given as goal

abbrev pub invariant-loop-name : goal.invariant-loop-name
invariant-loop-name l = PushesBindings l.fn.tasks.items l.tasks.items (reverse (seen_by l.yielded))
