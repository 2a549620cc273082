use Rattle.std.proofs.Common.{refl}
use Rattle.clj_script.proofs.TaskLemmas.{ends_more}
use Rattle.clj_script.proofs.task.push_ends.Goals as goal

pub loop-preserved : goal.loop-preserved
loop-preserved c = ends_more c.loop.counter _ c.loop.invariant c.in_ok-push.ensures.items refl
