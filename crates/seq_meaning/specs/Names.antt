-- What evaluations and parts are called.
use Rattle.std.specs.Prelude.{ℕ, List, [], ◌∷◌, ◌++◌}

pub data Name : Type 0 where
  -- a top form, by its number from 1
  form : ℕ → Name
  -- the part that an evaluation makes as so many-th, from 1: the part itself, and the evaluation that gives its value
  part : Name → ℕ → Name
  -- the attempt at a lazy part by which an evaluation fails
  retry : Name → Name

-- the name as a list of whole numbers
abbrev pub numbers : Name → List ℕ
numbers (form k) = k ∷ []
numbers (part e j) = numbers e ++ j ∷ []
numbers (retry e) = numbers e ++ 0 ∷ []
