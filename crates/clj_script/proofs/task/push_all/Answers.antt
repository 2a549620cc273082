use Rattle.clj_script.proofs.TaskLemmas.{pushes_one, pushes_over, on_ok}
use Rattle.clj_script.proofs.task.push_all.Goals as goal

pub returns : goal.returns
returns c = on_ok c.push_looks.result (pushes_over (pushes_one _ c.in_ok-push.ensures.items)) c.push_looks.ensures
