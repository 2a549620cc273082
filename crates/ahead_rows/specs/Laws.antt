-- What holds of the rules, as statements. A renaming is given by a test that tells which cells are the same.
use Rattle.std.specs.Prelude.{ℕ, Bool, List}
use Rattle.seq_values.specs.declared.words.Builtin.{Builtin}
use Rattle.seq_values.specs.declared.words.Op.{Op}
use Rattle.seq_values.specs.Model.{Value}
use Rattle.seq_plan.specs.Plan.{Loop}
use Rattle.seq_plan.specs.Alike.{Tells, LikeList, LikePlan, LikeRound}
use Rattle.ahead_rows.specs.Table.{ahead_call, ahead_term, ahead_round}

-- calls of a word with like arguments are alike
abbrev pub CallsRename : Type 0
CallsRename = (test : ℕ → ℕ → Bool) (processors : ℕ) (word : Builtin) (xs ys : List (Value ℕ)) → LikeList (Tells test) xs ys → LikePlan (Tells test) (ahead_call processors word xs) (ahead_call processors word ys)

-- terms with like arguments are alike
abbrev pub TermsRename : Type 0
TermsRename = (test : ℕ → ℕ → Bool) (size : ℕ) (op : Op) (xs ys : List (Value ℕ)) → LikeList (Tells test) xs ys → LikePlan (Tells test) (ahead_term size op xs) (ahead_term size op ys)

-- rounds of a loop with like variables are alike
abbrev pub RoundsRename : Type 0
RoundsRename = (test : ℕ → ℕ → Bool) (l : Loop) (xs ys : List (Value ℕ)) → LikeList (Tells test) xs ys → LikeRound (Tells test) (ahead_round l xs) (ahead_round l ys)
