-- What a `take` tells.
use Rattle.std.specs.Prelude.{◌≡◌, ℕ, ◌≤◌, true, ◌++◌, [], ◌∷◌}
use Rattle.job_pool.specs.declared.Taken.{Taken}
use Rattle.job_pool.specs.declared.Taken.TheVariants.{Job, Nothing, Closed}
use Rattle.job_pool.specs.Passes.{Jobs, HasAll}
use Rattle.job_pool.specs.Pooling.{times}

-- Nothing was left in the pool: what was handed out is what was pushed, each job as often.
abbrev pub IsEmptied : Jobs → Type 0
IsEmptied p = (x : ℕ) → times x p.pushed ≡ times x p.handed

-- No job was handed out more often than it was pushed.
abbrev pub IsFair : Jobs → Type 0
IsFair p = (x : ℕ) → times x p.handed ≤ times x p.pushed

-- A job is added to those handed out. Without one the pool was empty at a step of the call, as one who has all passes sees; `Closed` leaves the pass knowing of a close.
abbrev pub Takes : Jobs → Taken → Jobs → Type 0
Takes p (Job j) q = (q ≡ record p { handed = p.handed ++ j ∷ [] }) × (HasAll p → IsFair q)
Takes p Nothing q = (q ≡ p) × (HasAll p → IsEmptied p)
Takes p Closed q = (q ≡ record p { closed = true }) × (HasAll p → IsEmptied p)
