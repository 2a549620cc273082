use Rattle.clj_script.proofs.TaskLemmas.{PushesEnds}
use Rattle.clj_script.proofs.task.push_ends.Given as goal

abbrev pub invariant-loop : goal.invariant-loop
invariant-loop l = PushesEnds l.fn.tasks.items l.tasks.items l.counter
