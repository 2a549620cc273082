-- The arguments of a fold's term.
use Rattle.std.specs.Prelude.{ℕ, Bool, true, false, pos, int_lt}
use Rattle.seq_values.specs.Model as M

abbrev pub is_vector : M.Value ℕ → Bool
is_vector (M.vector items) = true
is_vector _ = false

-- an integer of at least 1
abbrev pub is_some_size : M.Value ℕ → Bool
is_some_size (M.int n) = int_lt (pos 0) n
is_some_size _ = false
