-- What many words ask of their arguments.
use Rattle.std.specs.Prelude.{ℤ, pos, int_lt, cond, List, [], ◌∷◌}
use Rattle.seq_base.specs.declared.thrown.Thrown.TheVariants.{Arity, Index}
use Rattle.seq_values.specs.Model.{Value}
use Rattle.seq_plan.specs.Plan.{Plan, throw}

module _ {C : Type 0} where
  -- one argument of any kind
  abbrev pub of_value : (Value C → Plan C) → List (Value C) → Plan C
  of_value k (x ∷ []) = k x
  of_value k _ = throw Arity

  -- the size of a group
  abbrev pub at_least_one : ℤ → Plan C → Plan C
  at_least_one n p = cond (int_lt n (pos 1)) (throw Index) p
