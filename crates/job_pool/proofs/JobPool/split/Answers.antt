use Rattle.std.proofs.Common.{arith, sym, ap, ◌∙◌}
use Rattle.job_pool.specs.Passes.{PoolId, Jobs}
use Rattle.job_pool.proofs.Keeps.{forks}
use Rattle.job_pool.proofs.Ringing.{splits_bell}
use Rattle.job_pool.proofs.JobPool.split.Goals as goal

pub another-hook-requires-clause-rule : goal.another-hook-requires-clause-rule
another-hook-requires-clause-rule c = forks c.pass.inside.hook.id c.pass.inside.hook.me.view.client c.pass.invariant.3

pub split_seat-seat-requires : goal.split_seat-seat-requires
split_seat-seat-requires c = (
  ap (λ (x : Jobs). x.pool.bell) c.pass.view_is ∙ ap (λ (x : PoolId). x.bell) c.requires.pool ∙ sym (ap (λ (x : PoolId). x.bell) c.self.view_is),
  (let w = c.self.invariant in omega arith),
  splits_bell c.pass.inside.seat.id c.pass.inside.seat.me.0,
)
