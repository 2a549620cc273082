use Rattle.std.proofs.Common.{arith, sym, ap, ◌∙◌}
use Rattle.job_pool.specs.Passes.{PoolId, Jobs}
use Rattle.job_pool.proofs.Ringing.{calls_bell}
use Rattle.job_pool.proofs.JobPool.close.Goals as goal

pub store-requires : goal.store-requires
store-requires c = (
  ap (λ (x : Jobs). x.pool.bell) c.pass.view_is ∙ ap (λ (x : PoolId). x.bell) c.requires.pool ∙ sym (ap (λ (x : PoolId). x.bell) c.self.view_is),
  (let w = c.self.invariant in omega arith),
  calls_bell c.self.inside.bell.shared.table_id.slots c.pass.inside.seat.id c.pass.inside.seat.me,
)
