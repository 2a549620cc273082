use Rattle.clj_script.proofs.TaskLemmas.{pushes_one, pushes_more}
use Rattle.clj_script.proofs.task.push_one.Goals as goal

pub returns : goal.returns
returns c = pushes_more _ (pushes_one _ c.in_ok-push.ensures.items) c.in_ok-push-2.ensures.items
