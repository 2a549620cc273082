-- What holds of turns for whoever runs them, as statements.
use Rattle.std.specs.Prelude.{◌≡◌, ℕ, Bool, true, List}
use Rattle.seq_values.specs.Model.{Value}
use Rattle.seq_plan.specs.Plan.{Loop, Plan, Round}
use Rattle.seq_plan.specs.Nodes.{now, found}
use Rattle.seq_plan.specs.Silent.{Silently}
use Rattle.seq_turns.specs.Turning.{Silent}

-- what a rule passes over by its own loops, it passes over by the table's, where the table has those loops as the rule has them
abbrev pub SilentIn : Type 0
SilentIn = (own : Loop → Bool) (rounds all : Loop → List (Value ℕ) → Round ℕ) → ((l : Loop) (xs : List (Value ℕ)) → own l ≡ true → all l xs ≡ rounds l xs) → (p q : Plan ℕ) → Silent own rounds p q → Silently all p q

-- `seq` of what `seq` finds is that itself
abbrev pub FoundAgain : Type 0
FoundAgain = (v w : Value ℕ) → found v ≡ now w → found w ≡ now w
