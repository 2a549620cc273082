-- What a rule looks at among its arguments.
use Rattle.std.specs.Prelude.{ℕ, ℤ, Option, Some, None}
use Rattle.seq_values.specs.Model as M

-- the integer that a value is
abbrev pub integer_of : M.Value ℕ → Option ℤ
integer_of (M.int n) = Some n
integer_of _ = None

-- the number of a part that a value is
abbrev pub part_in : M.Value ℕ → Option ℕ
part_in (M.cell c) = Some c
part_in _ = None
