use Rattle.clj_script.proofs.TaskLemmas.{pushes_one, pushes_more, pushes_over}
use Rattle.clj_script.proofs.task.push_call.Goals as goal

pub returns : goal.returns
returns c = pushes_more _ (pushes_over (pushes_one _ c.in_ok-push.ensures.items) c.in_ok-push_looks.ensures) c.in_ok-push-2.ensures.items
