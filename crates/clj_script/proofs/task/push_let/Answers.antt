use Rattle.std.proofs.Common.{refl}
use Rattle.clj_script.proofs.ArenaLemmas.{below_both}
use Rattle.clj_script.proofs.TaskLemmas.{pushes_more, pushes_both, pushes_same, on_ok}
use Rattle.clj_script.proofs.task.push_let.Goals as goal

pub returns : goal.returns
returns c =
    on_ok c.push_bindings.result
    (λ p. pushes_same (pushes_both (pushes_more _ c.in_ok-push_ends.ensures c.in_ok-push.ensures.items) p) (λ bound b. below_both bound _ c.args.body b.1 b.0) (λ es. refl))
    c.push_bindings.ensures
