-- The error words.
use Rattle.std.specs.Prelude.{ℕ, List, codes}
use Rattle.seq_base.specs.declared.thrown.Thrown.{Thrown}
use Rattle.seq_base.specs.declared.thrown.Thrown.TheVariants.{Overflow, Divide, Arity, BadType, Index, Depth, Steps}

-- the word that a `threw` line shows
abbrev pub word : Thrown → List ℕ
word Overflow = codes "overflow"
word Divide = codes "divide"
word Arity = codes "arity"
word BadType = codes "type"
word Index = codes "index"
word Depth = codes "depth"
word Steps = codes "steps"
