use Rattle.std.proofs.Common.{ap, ◌∙◌}
use Rattle.clj_script.proofs.TaskLemmas.{pushes_one, pushes_more}
use Rattle.clj_script.proofs.task.push_if.Goals as goal
use Rattle.clj_script.proofs.task.push_if.Goals.{in-Some+in_ok-push-in-Some, in-None+in_ok-push-in-None}

pub returns : goal.returns
returns c = elim c.match-no.branch [
  | in-Some+in_ok-push-in-Some w ↦
      rw w.in-Some.is
      (pushes_more _ (pushes_more _ (pushes_more _ (pushes_one _ c.in_ok-push.ensures.items) (ap (λ v. v.items) w.tasks-is ∙ w.in_ok-push-in-Some.ensures.items)) c.in_ok-push-2.ensures.items) c.in_ok-push-3.ensures.items)
  | in-None+in_ok-push-in-None w ↦
      rw w.in-None.is
      (pushes_more _ (pushes_more _ (pushes_more _ (pushes_one _ c.in_ok-push.ensures.items) (ap (λ v. v.items) w.tasks-is ∙ w.in_ok-push-in-None.ensures.items)) c.in_ok-push-2.ensures.items) c.in_ok-push-3.ensures.items)
]
