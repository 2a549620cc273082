use Rattle.std.proofs.Common.{arith, sym, ap, ◌∙◌}
use Rattle.job_pool.specs.Passes.{PoolId, Jobs}
use Rattle.job_pool.proofs.Keeps.{merges}
use Rattle.job_pool.proofs.Ringing.{joins_bell}
use Rattle.job_pool.proofs.JobPool.join.Goals as goal

pub absorb-requires-clause-rule : goal.absorb-requires-clause-rule
absorb-requires-clause-rule c = merges c.pass.inside.hook.id c.pass.inside.hook.me.view.client c.other.inside.hook.id c.other.inside.hook.me.view.client c.pass.invariant.3

pub join_seat-requires : goal.join_seat-requires
join_seat-requires c = (
  ap (λ (x : Jobs). x.pool.bell) c.pass.view_is ∙ ap (λ (x : PoolId). x.bell) c.requires.pool.0 ∙ sym (ap (λ (x : PoolId). x.bell) c.self.view_is),
  ap (λ (x : Jobs). x.pool.bell) c.other.view_is ∙ ap (λ (x : PoolId). x.bell) c.requires.pool.1 ∙ sym (ap (λ (x : PoolId). x.bell) c.self.view_is),
  c.other.invariant.2,
  (let w = c.self.invariant in omega arith),
  joins_bell c.pass.inside.seat.id c.pass.inside.seat.me.0 c.other.inside.seat.id c.other.inside.seat.me.0,
)
