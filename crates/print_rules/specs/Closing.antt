-- What comes after a value of which the whole text stands there.
use Rattle.std.specs.Prelude.{ℕ, ◌<◌, length}
use Rattle.seq_plan.specs.Plan.{Plan}
use Rattle.seq_turns.specs.Turning.{Silent}
use Rattle.print_rules.specs.Left.{is_print, print_round, resumes, Takes}
use Rattle.print_rules.specs.declared.closing.Resumed.{Resumed}
use Rattle.print_rules.specs.declared.closing.Resumed.TheVariants as R

-- the turn takes the plan's next node, or the plan may be passed on to what is left then
abbrev pub Resumes : Plan ℕ → Resumed → Type 0
Resumes plan (R.Turn n) = Takes plan n
Resumes plan (R.Closed p) = Silent is_print print_round plan (resumes p)

-- fewer than so many wait
abbrev pub IsWithin : Resumed → ℕ → Type 0
IsWithin (R.Turn n) count = Unit {0}
IsWithin (R.Closed p) count = length p.around.items < count
