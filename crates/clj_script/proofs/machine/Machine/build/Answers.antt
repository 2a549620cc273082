use Rattle.clj_script.proofs.TaskLemmas.{on_ok}
use Rattle.clj_script.proofs.BuildLemmas.{built_nil}
use Rattle.clj_script.proofs.machine.Machine.build.Goals as goal

pub returns-in-Nil : goal.returns-in-Nil
returns-in-Nil c = rw c.in-Nil.is (on_ok c.give.result (built_nil _ _) c.give.ensures)
