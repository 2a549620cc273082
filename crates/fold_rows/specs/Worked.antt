-- Worked rows of reducer values and of `fold`. Each is a computation over the rules.
use Rattle.std.specs.Prelude.{◌≡◌, ℕ, pos, true, false, [], ◌∷◌}
use Rattle.seq_base.specs.declared.thrown.Thrown.TheVariants.{Arity, BadType, Index}
use Rattle.seq_values.specs.declared.words.Builtin.TheVariants as B
use Rattle.seq_values.specs.declared.words.FolderKind.TheVariants as F
use Rattle.seq_values.specs.declared.words.Kind.TheVariants.{Future}
use Rattle.seq_values.specs.declared.words.Op.TheVariants as O
use Rattle.seq_values.specs.declared.words.Target.TheVariants as T
use Rattle.seq_values.specs.declared.words.XfKind.TheVariants as X
use Rattle.seq_values.specs.Model.{Value, nil, int, vector, function, no_values, ◌&◌}
use Rattle.seq_plan.specs.Plan.{Plan, ask, call, give, throw}
use Rattle.seq_plan.specs.Nodes.{make_term}
use Rattle.seq_plan.specs.Stages.{gathers, Onward, enter}
use Rattle.fold_rows.specs.Table.{reducer, bottom, reducer_stages, can_split, fold_group, fold_items, fold_call}

abbrev number : ℕ → Value ℕ
number n = int (pos n)

-- Of a reducer value over a reducer value the inner one's stage comes first; nothing over `take` or `take-while` is split.
abbrev pub Reducers : Type 0
Reducers =
    ((f p : Value ℕ) → reducer_stages (reducer F.Map f (reducer F.Filter p (vector no_values))) ≡ function (T.Xf X.Filter) (p & no_values) ∷ function (T.Xf X.Map) (f & no_values) ∷ [])
    × ((f p : Value ℕ) → bottom (reducer F.Map f (reducer F.Filter p nil)) ≡ nil)
    × ((f p : Value ℕ) → can_split (reducer F.Map f (reducer F.Filter p (vector no_values))) ≡ true)
    × ((f p : Value ℕ) → can_split (reducer F.Map f (reducer F.Filter p nil)) ≡ false)
    × ((f : Value ℕ) → can_split (reducer F.Map f (reducer F.Take (number 2) (vector no_values))) ≡ false)
    × ((f p : Value ℕ) → can_split (reducer F.TakeWhile p (vector no_values)) ≡ false)

-- the `take` of the reducers passes on while some are left, and is done at the input after the last
abbrev pub Taken : Type 0
Taken =
    ((x : Value ℕ) (k : Onward ℕ) → enter (function (T.Folder F.Take) (number 2 & no_values) ∷ []) (number 1 ∷ []) (gathers []) x k ≡ k (number 0 ∷ []) (gathers (x ∷ [])) false)
    × ((x : Value ℕ) (k : Onward ℕ) → enter (function (T.Folder F.Take) (number 2 & no_values) ∷ []) (number 0 ∷ []) (gathers []) x k ≡ k (number 0 ∷ []) (gathers []) true)

-- Of three items in groups of one the last two are the future, and the first is folded here; nothing is asked before that.
abbrev pub Folded : Type 0
Folded = (combine f a b c : Value ℕ) (k : Value ℕ → Plan ℕ) →
    (fold_items (pos 1) combine f [] (a ∷ b ∷ c ∷ []) k
    ≡ make_term Future O.Fold (vector (b & c & no_values) ∷ number 1 ∷ combine ∷ f ∷ []) (λ m. fold_group combine f [] (a ∷ []) (λ left. ask m (λ right. call combine (left ∷ right ∷ []) k))))
    × (fold_items (pos 1) combine f [] [] k ≡ call combine [] k)

-- what the words throw
abbrev pub Words : Type 0
Words =
    ((f c : Value ℕ) → fold_call B.Fold (number 0 ∷ f ∷ f ∷ c ∷ []) ≡ throw Index)
    × ((f c : Value ℕ) → fold_call B.Fold (nil ∷ f ∷ f ∷ c ∷ []) ≡ throw BadType)
    × ((f : Value ℕ) → fold_call B.Fold (f ∷ []) ≡ throw Arity)
    × ((c : Value ℕ) → fold_call B.ReducerTake (nil ∷ c ∷ []) ≡ throw BadType)
    × ((c : Value ℕ) → fold_call B.ReducerTake (c ∷ []) ≡ throw Arity)
    × ((f : Value ℕ) → fold_call B.ReducerMap (f ∷ []) ≡ throw Arity)
    × ((f : Value ℕ) → fold_call B.Fold (f ∷ vector no_values ∷ []) ≡ call f [] give)
