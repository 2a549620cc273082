-- The lines of a step, by its kind and size.
use Rattle.std.specs.Prelude.{ℕ, List}
use Rattle.seq_table.specs.Generated.{lines_of_kind}
use Rattle.script_maker.specs.declared.kinds.Kind.{Kind}
use Rattle.script_maker.specs.declared.kinds.Kind.TheVariants.{Mapped, Filtered, Ahead, Folded}
use Rattle.script_maker.specs.declared.kinds.Step.{Step}

-- the number of a kind
abbrev pub number_of : Kind → ℕ
number_of Mapped = 0
number_of Filtered = 1
number_of Ahead = 2
number_of Folded = 3

-- the lines of step i
abbrev pub lines_of_step : ℕ → Step → List ℕ
lines_of_step i s = lines_of_kind (number_of s.kind) i s.size
