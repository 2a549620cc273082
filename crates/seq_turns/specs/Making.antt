-- What goes on where a value was to be made: the value where it isn't too deep and its members are not too many, else the error.
use Rattle.std.specs.Prelude.{◌≡◌, ℕ, List}
use Rattle.seq_base.specs.declared.thrown.Thrown.TheVariants.{Overflow}
use Rattle.seq_values.specs.Model as M
use Rattle.seq_values.specs.Plain.{plain, plains}
use Rattle.seq_plan.specs.Plan.{Plan, throw}
use Rattle.seq_turns.specs.declared.made.Made.{Made}
use Rattle.seq_turns.specs.declared.made.Made.TheVariants as D
use Rattle.seq_turns.specs.declared.made.Grown.{Grown}
use Rattle.seq_turns.specs.declared.made.Grown.TheVariants as G

-- goes on with the value, or throws
abbrev pub made : Made → (M.Value ℕ → Plan ℕ) → Plan ℕ
made (D.Value v) k = k (plain v.value)
made (D.Thrown why) k = throw why

-- whatever comes after it, the plan goes on with what was made
pub record Makes (plan : (M.Value ℕ → Plan ℕ) → Plan ℕ) (m : Made) : Type 0 where
  pub goes : (k : M.Value ℕ → Plan ℕ) → plan k ≡ made m k

-- goes on with the members, or throws where there are too many
abbrev pub grown : Grown → (List (M.Value ℕ) → Plan ℕ) → Plan ℕ
grown (G.All all) k = k (plains all.items.items)
grown G.TooMany k = throw Overflow

pub record Grows (plan : (List (M.Value ℕ) → Plan ℕ) → Plan ℕ) (g : Grown) : Type 0 where
  pub goes : (k : List (M.Value ℕ) → Plan ℕ) → plan k ≡ grown g k
