-- What contracts see of a pool and of a pass of it.
use Rattle.std.specs.Prelude.{◌≡◌, ℕ, Bool, List}
use Rattle.atomic_table.specs.Seated.{TableId}
use Rattle.crossbeam_queue.specs.SegTies.{SegId}
use Rattle.std.specs.declared.alloc.Global.{Global}

-- which pool it is
pub record PoolId : Type 0 where
  pub line : SegId Global
  pub bell : TableId

-- A pass: its pool, the jobs that it pushed and those that it was handed, in order, and whether it knows of a close. Of all passes of the pool it is `part` of `whole` parts.
pub record Jobs : Type 0 where
  pub pool : PoolId
  pub pushed : List ℕ
  pub handed : List ℕ
  pub part : ℕ
  pub whole : ℕ
  pub closed : Bool

-- every other pass that was split off was joined again, into this one
abbrev pub HasAll : Jobs → Type 0
HasAll p = p.part ≡ p.whole
