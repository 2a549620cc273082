-- What holds of the rules, as statements. A renaming is given by a test that tells which cells are the same.
use Rattle.std.specs.Prelude.{ℕ, Bool, List}
use Rattle.seq_values.specs.declared.words.Builtin.{Builtin}
use Rattle.seq_values.specs.declared.words.Op.{Op}
use Rattle.seq_values.specs.Model.{Value}
use Rattle.seq_plan.specs.Plan.{Loop}
use Rattle.seq_plan.specs.Alike.{Tells, LikeList, LikePlan, LikeRound}
use Rattle.lazy_rows.specs.Table.{walk_call, lazy_term, walk_round}

-- calls of a word with like arguments are alike
abbrev pub CallsRename : Type 0
CallsRename = (test : ℕ → ℕ → Bool) (word : Builtin) (xs ys : List (Value ℕ)) → LikeList (Tells test) xs ys → LikePlan (Tells test) (walk_call word xs) (walk_call word ys)

-- terms with like arguments are alike
abbrev pub TermsRename : Type 0
TermsRename = (test : ℕ → ℕ → Bool) (size : ℕ) (op : Op) (xs ys : List (Value ℕ)) → LikeList (Tells test) xs ys → LikePlan (Tells test) (lazy_term size op xs) (lazy_term size op ys)

-- rounds of a loop with like variables are alike
abbrev pub RoundsRename : Type 0
RoundsRename = (test : ℕ → ℕ → Bool) (l : Loop) (xs ys : List (Value ℕ)) → LikeList (Tells test) xs ys → LikeRound (Tells test) (walk_round l xs) (walk_round l ys)
