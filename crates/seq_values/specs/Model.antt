-- Values, terms and outcomes as the meaning sees them. `C` is what stands for a cell: a number in a book, a name in the meaning of a program.
use Rattle.std.specs.Prelude.{ℕ, ℤ, Bool, List, [], ◌∷◌}
use Rattle.seq_base.specs.declared.thrown.Thrown.{Thrown}
use Rattle.seq_values.specs.declared.words.Op.{Op}
use Rattle.seq_values.specs.declared.words.Target.{Target}

mutual
  pub data Value (C : Type 0) : Type 0 where
    nil : Value C
    bool : Bool → Value C
    int : ℤ → Value C
    keyword : List ℕ → Value C
    text : List ℕ → Value C
    vector : Values C → Value C
    -- what is called, and its bound arguments
    function : Target → Values C → Value C
    reduced : Value C → Value C
    cell : C → Value C
    -- The nodes, from here on. `()`:
    empty : Value C
    -- the leading elements, the first one last, and the rest
    cons : Values C → Value C → Value C
    -- the leading elements, the first one first, and the rest
    chunk : Values C → Value C → Value C
    -- Chunks of the range are counted from the first number; the range stands at the second, and ends before the third.
    range : ℤ → ℤ → ℤ → Value C
    -- the items of a vector from a place on
    vec_seq : Values C → ℕ → Value C

  pub data Values (C : Type 0) : Type 0 where
    no_values : Values C
    ◌&◌ : Value C → Values C → Values C

infixr 60 ◌&◌
-- the members as a list, and back
abbrev pub list : {C : Type 0} → Values C → List (Value C)
list no_values = []
list (x & xs) = x ∷ list xs

abbrev pub values : {C : Type 0} → List (Value C) → Values C
values [] = no_values
values (x ∷ xs) = x & values xs

-- what a part is to do: an operation with its arguments
pub record Term (C : Type 0) : Type 0 where
  pub op : Op
  pub args : List (Value C)

-- how an evaluation ends
pub data Outcome (C : Type 0) : Type 0 where
  gave : Value C → Outcome C
  threw : Thrown → Outcome C
