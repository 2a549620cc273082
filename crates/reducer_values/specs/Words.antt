-- The words that make reducer values.
use Rattle.std.specs.Prelude.{ℕ, ℤ, Bool, true, false, List, [], ◌∷◌, Option, None}
use Rattle.seq_base.specs.declared.thrown.Thrown.TheVariants.{Arity}
use Rattle.seq_values.specs.declared.words.Builtin.{Builtin}
use Rattle.seq_values.specs.declared.words.Builtin.TheVariants as B
use Rattle.seq_values.specs.declared.words.FolderKind.{FolderKind}
use Rattle.seq_values.specs.Model.{Value}
use Rattle.seq_plan.specs.Plan.{Plan, throw}
use Rattle.seq_plan.specs.Nodes.{give_value}
use Rattle.seq_turns.specs.Arguments.{integer_of}
use Rattle.fold_rows.specs.Table.{reducer}

abbrev pub is_reducer_word : Builtin → Bool
is_reducer_word B.ReducerMap = true
is_reducer_word B.ReducerFilter = true
is_reducer_word B.ReducerRemove = true
is_reducer_word B.ReducerMapcat = true
is_reducer_word B.ReducerTake = true
is_reducer_word B.ReducerTakeWhile = true
is_reducer_word _ = false

-- the row of such a word that takes a function
abbrev pub called_with : FolderKind → List (Value ℕ) → Plan ℕ
called_with kind (f ∷ c ∷ []) = give_value (reducer kind f c)
called_with kind _ = throw Arity

-- the first argument, where it is an integer
abbrev pub first_integer : List (Value ℕ) → Option ℤ
first_integer [] = None
first_integer (x ∷ xs) = integer_of x
