-- What the code looks at among arguments, and what it decides of an answer.
use Rattle.std.specs.Prelude.{ℕ, ℤ, Bool, false, ◌||◌, List, [], ◌∷◌, Option, Some, None}
use Rattle.seq_values.specs.Model as M
use Rattle.seq_values.specs.Plain.{plain}
use Rattle.seq_plan.specs.Nodes.{is_nil}
use Rattle.seq_turns.specs.Arguments.{integer_of}
use Rattle.seq_turns.specs.declared.proper.Proper.{Proper}
use Rattle.lazy_rules.specs.declared.choosing.Chosen.{Chosen}
use Rattle.lazy_rules.specs.declared.choosing.Chosen.TheVariants as C

abbrev pub counted_with : M.Value ℕ → Option ℤ → Option (ℤ × M.Value ℕ)
counted_with c (Some n) = Some (n, c)
counted_with c None = None

-- an integer and a second argument
abbrev pub counted : List (M.Value ℕ) → Option (ℤ × M.Value ℕ)
counted (x ∷ c ∷ []) = counted_with c (integer_of x)
counted _ = None

-- what is kept of an element, by what was chosen
abbrev pub chosen : Chosen → M.Value ℕ → M.Value ℕ → List (M.Value ℕ)
chosen C.Answer x y = y ∷ []
chosen C.Element x y = x ∷ []
chosen C.Neither x y = []

-- one value or none
abbrev pub listed : Option Proper → List (M.Value ℕ)
listed None = []
listed (Some v) = plain v.value ∷ []

-- whether one of them is nil
abbrev pub is_any_nil : List (M.Value ℕ) → Bool
is_any_nil [] = false
is_any_nil (s ∷ ss) = is_nil s || is_any_nil ss

-- the first one, where it is an integer
abbrev pub first_number : List (M.Value ℕ) → Option ℤ
first_number [] = None
first_number (x ∷ xs) = integer_of x
