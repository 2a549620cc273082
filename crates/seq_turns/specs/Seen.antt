-- What `seq` finds, what comes after an element, and the first chunk of a node, as the code holds them.
use Rattle.std.specs.Prelude.{◌≡◌, ℕ, List, Option, Some, None}
use Rattle.seq_values.specs.Model as M
use Rattle.seq_values.specs.Plain.{plain, plains}
use Rattle.seq_plan.specs.Cursors.{stands}
use Rattle.seq_plan.specs.Nodes.{now, found}
use Rattle.seq_turns.specs.declared.places.Rest.{Rest}
use Rattle.seq_turns.specs.declared.places.Rest.TheVariants as R
use Rattle.seq_turns.specs.declared.places.Seen.{Seen}
use Rattle.seq_turns.specs.declared.places.Seen.TheVariants as S
use Rattle.seq_turns.specs.declared.places.Sought.{Sought}
use Rattle.seq_turns.specs.declared.places.Sought.TheVariants as F
use Rattle.seq_turns.specs.declared.places.Chunked.{Chunked}
use Rattle.seq_turns.specs.declared.places.Chunked.TheVariants as C

-- what comes after an element
abbrev pub rested : Rest → M.Value ℕ
rested (R.Within c) = stands c
rested (R.Beyond v) = plain v.value

abbrev pub seen : Seen → M.Value ℕ
seen S.Nil = M.nil
seen (S.At c) = stands c

-- `seq` of the value has to ask, or throws
abbrev pub NotNow : M.Value ℕ → Type 0
NotNow v = (w : M.Value ℕ) → found v ≡ now w → ⊥

-- what `seq` of the value finds at once, or the value of which it has to be asked for
abbrev pub Finds : Sought → M.Value ℕ → Type 0
Finds (F.Now s) v = found v ≡ now (seen s)
Finds (F.Ask x) v = (plain x.value ≡ v) × NotNow v

-- the elements of a chunk and what comes after it, where there is one
abbrev pub chunked : Chunked → Option (List (M.Value ℕ) × M.Value ℕ)
chunked (C.Single c) = None
chunked (C.Whole items rest) = Some (plains items.items, plain rest.value)

-- a cursor that was no chunk is handed back
abbrev pub IsBack : Chunked → M.Value ℕ → Type 0
IsBack (C.Single c) s = stands c ≡ s
IsBack (C.Whole items rest) s = Unit {0}
