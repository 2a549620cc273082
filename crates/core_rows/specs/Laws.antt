-- What holds of the rules, as statements. A renaming is given by a test that tells which cells are the same.
use Rattle.std.specs.Prelude.{ℕ, Bool, List}
use Rattle.seq_values.specs.declared.words.Builtin.{Builtin}
use Rattle.seq_values.specs.declared.words.Target.{Target}
use Rattle.seq_values.specs.Model.{Value}
use Rattle.seq_plan.specs.Alike.{Tells, LikeList, LikePlan}
use Rattle.core_rows.specs.Table.{core_call, core_function}

-- calls of a word with like arguments are alike
abbrev pub CallsRename : Type 0
CallsRename = (test : ℕ → ℕ → Bool) (word : Builtin) (xs ys : List (Value ℕ)) → LikeList (Tells test) xs ys → LikePlan (Tells test) (core_call word xs) (core_call word ys)

-- calls of a function with like bound values and like arguments are alike
abbrev pub FunctionsRename : Type 0
FunctionsRename = (test : ℕ → ℕ → Bool) (t : Target) (bs cs xs ys : List (Value ℕ)) → LikeList (Tells test) bs cs → LikeList (Tells test) xs ys → LikePlan (Tells test) (core_function t bs xs) (core_function t cs ys)
