-- What holds of the table, as statements.
use Rattle.std.specs.Prelude.{ℕ, Bool}
use Rattle.seq_plan.specs.Sound.{SoundRules}
use Rattle.seq_plan.specs.Keeping.{KeepsRules}
use Rattle.seq_plan.specs.Alike.{Tells, LikeRules}
use Rattle.seq_meaning.specs.Names.{Name}
use Rattle.seq_meaning.specs.Twins.{Renames}
use Rattle.seq_table.specs.Table.{rules_of}

-- the rules look at cells only to ask them: by the names of twin evaluations, and by numbers for names
abbrev pub TableRenames : Type 0
TableRenames = (processors size : ℕ) → Renames (rules_of processors size) × ((test : ℕ → Name → Bool) → LikeRules (Tells test) (rules_of processors size) (rules_of processors size))

-- The rules make no node without an element: of sound values and sound answers each row calls, makes and gives sound values alone. So it is for numbers and for names in place of cells.
abbrev pub TableIsSound : Type 0
TableIsSound = (processors size : ℕ) → SoundRules {C = ℕ} (rules_of processors size) × SoundRules {C = Name} (rules_of processors size)

-- The rules keep to well-formed values: given such values, such terms and such answers, each row makes well-formed terms, calls with well-formed values and gives well-formed values.
abbrev pub TableKeeps : Type 0
TableKeeps = (processors size : ℕ) → KeepsRules {C = ℕ} (rules_of processors size) × KeepsRules {C = Name} (rules_of processors size)
