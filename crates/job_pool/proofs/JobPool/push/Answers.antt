use Rattle.job_pool.proofs.Keeps.{pushes}
use Rattle.job_pool.proofs.JobPool.push.Goals as goal

pub push_as-requires-clause-rule : goal.push_as-requires-clause-rule
push_as-requires-clause-rule g c = λ n. pushes n c.pass.inside.hook.id c.pass.inside.hook.me.view.client c.args.job c.pass.invariant.3
