-- What holds of the rows, as statements. A renaming is given by a test that tells which cells are the same.
use Rattle.std.specs.Prelude.{◌≡◌, ℕ, ◌≤◌, ◌<◌, ◌/◌, pos, Bool, List, [], ◌∷◌, length, take, drop}
use Rattle.seq_values.specs.declared.words.Builtin.{Builtin}
use Rattle.seq_values.specs.declared.words.Kind.TheVariants.{Future}
use Rattle.seq_values.specs.declared.words.Op.TheVariants as O
use Rattle.seq_values.specs.Model.{Value, int, vector, values}
use Rattle.seq_plan.specs.Plan.{Plan, ask, call}
use Rattle.seq_plan.specs.Nodes.{make_term}
use Rattle.seq_plan.specs.Alike.{Tells, LikeList, LikePlan}
use Rattle.fold_rows.specs.Table.{fold_group, fold_items, fold_call, fold_term}

-- the rows look at cells only to ask them: like arguments have like plans
abbrev pub RowsRename : Type 0
RowsRename = (test : ℕ → ℕ → Bool) (xs ys : List (Value ℕ)) → LikeList (Tells test) xs ys →
    ((word : Builtin) → LikePlan (Tells test) (fold_call word xs) (fold_call word ys))
    × LikePlan (Tells test) (fold_term xs) (fold_term ys)

-- A fold of so few items is one group.
abbrev pub FoldsAGroup : Type 0
FoldsAGroup = (size : ℕ) (combine f : Value ℕ) (stages items : List (Value ℕ)) (k : Value ℕ → Plan ℕ) → length items ≤ size →
    fold_items (pos size) combine f stages items k ≡ fold_group combine f stages items k

-- A fold of more makes a future of the second half, folds the first, asks the future, and combines both: the number that bounds the halving is never reached.
abbrev pub FoldsHalves : Type 0
FoldsHalves = (size : ℕ) (combine f : Value ℕ) (stages items : List (Value ℕ)) (k : Value ℕ → Plan ℕ) → size < length items →
    let half = length items / 2 in
    fold_items (pos size) combine f stages items k
    ≡ make_term Future O.Fold (vector (values (drop half items)) ∷ int (pos size) ∷ combine ∷ f ∷ stages) (λ m.
    fold_items (pos size) combine f stages (take half items) (λ left. ask m (λ right. call combine (left ∷ right ∷ []) k)))
