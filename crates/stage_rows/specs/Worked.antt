-- Worked rows of the stages. Each is a computation over the rules.
use Rattle.std.specs.Prelude.{◌≡◌, ℕ, pos, true, false, List, [], ◌∷◌}
use Rattle.seq_base.specs.declared.thrown.Thrown.TheVariants.{Arity, BadType}
use Rattle.seq_values.specs.declared.words.Builtin.TheVariants as B
use Rattle.seq_values.specs.declared.words.Kind.TheVariants.{Lazy}
use Rattle.seq_values.specs.declared.words.Op.TheVariants as O
use Rattle.seq_values.specs.declared.words.Target.TheVariants as T
use Rattle.seq_values.specs.declared.words.XfKind.{XfKind}
use Rattle.seq_values.specs.declared.words.XfKind.TheVariants as X
use Rattle.seq_values.specs.Model.{Value, nil, bool, int, vector, function, cell, no_values, ◌&◌, values}
use Rattle.seq_plan.specs.Plan.{Plan, call, give, throw}
use Rattle.seq_plan.specs.Nodes.{if_true, if_nil, make_term}
use Rattle.seq_plan.specs.Stages.{Sink, reduces, gathers, Onward, is_transducer, stages_of, has_stages, with_stages, fresh, is_reduced, unwrapped, enter, enter_each, complete}
use Rattle.stage_rows.specs.Table.{kept, replaced, stage_call}

abbrev stage : XfKind → Value ℕ → Value ℕ
stage kind bound = function (T.Xf kind) (bound & no_values)

abbrev number : ℕ → Value ℕ
number n = int (pos n)

abbrev numbers : List (Value ℕ) → Value ℕ
numbers xs = vector (values xs)

abbrev word_cat : Value ℕ
word_cat = function (T.Builtin B.Cat) no_values

abbrev identity : Value ℕ
identity = function (T.Builtin B.Identity) no_values

abbrev comp : List (Value ℕ) → Value ℕ
comp fs = function T.Comp (values fs)

-- stages come in the order of the composition; `identity` has none, and `inc` is no transducer
abbrev pub Compositions : Type 0
Compositions =
    ((f : Value ℕ) → stages_of (comp (stage X.Map f ∷ comp (identity ∷ word_cat ∷ []) ∷ stage X.Take (number 3) ∷ [])) ≡ stage X.Map f ∷ function (T.Xf X.Cat) no_values ∷ stage X.Take (number 3) ∷ [])
    × (has_stages (comp (identity ∷ [])) ≡ false)
    × (has_stages word_cat ≡ true)
    × (is_transducer (comp (identity ∷ function (T.Builtin B.Inc) no_values ∷ [])) ≡ false)
    × ((k : List (Value ℕ) → Plan ℕ) → with_stages (function (T.Builtin B.Inc) no_values) k ≡ throw BadType)

-- With `map f` before `filter p`, f is called, then p, and then the reducing function where p's answer is true. `remove` and `keep` pass on where theirs is false, or not nil.
abbrev pub Passed : Type 0
Passed =
    ((f p g a x : Value ℕ) (k : Onward ℕ) → enter (stage X.Map f ∷ stage X.Filter p ∷ []) (nil ∷ nil ∷ []) (reduces g a) x k
    ≡ call f (x ∷ []) (λ y. call p (y ∷ []) (λ z. if_true z
    (call g (a ∷ y ∷ []) (λ w. k (nil ∷ nil ∷ []) (reduces g (unwrapped w)) (is_reduced w)))
    (k (nil ∷ nil ∷ []) (reduces g a) false))))
    × ((p x : Value ℕ) (k : Onward ℕ) → enter (stage X.Remove p ∷ []) (nil ∷ []) (gathers []) x k
    ≡ call p (x ∷ []) (λ z. if_true z (k (nil ∷ []) (gathers []) false) (k (nil ∷ []) (gathers (x ∷ [])) false)))
    × ((f x : Value ℕ) (k : Onward ℕ) → enter (stage X.Keep f ∷ []) (nil ∷ []) (gathers []) x k
    ≡ call f (x ∷ []) (λ z. if_nil z (k (nil ∷ []) (gathers []) false) (k (nil ∷ []) (gathers (z ∷ [])) false)))

-- All is done with the last element that is taken, and at once where none is; `take-while` is done at the first that isn't.
abbrev pub Taken : Type 0
Taken =
    ((x : Value ℕ) (k : Onward ℕ) → enter (stage X.Take (number 0) ∷ []) (number 0 ∷ []) (gathers []) x k ≡ k (number 0 ∷ []) (gathers []) true)
    × ((x : Value ℕ) (k : Onward ℕ) → enter (stage X.Take (number 2) ∷ []) (number 2 ∷ []) (gathers []) x k ≡ k (number 1 ∷ []) (gathers (x ∷ [])) false)
    × ((x : Value ℕ) (k : Onward ℕ) → enter (stage X.Take (number 2) ∷ []) (number 1 ∷ []) (gathers []) x k ≡ k (number 0 ∷ []) (gathers (x ∷ [])) true)
    × ((p x : Value ℕ) (k : Onward ℕ) → enter (stage X.TakeWhile p ∷ []) (nil ∷ []) (gathers []) x k
    ≡ call p (x ∷ []) (λ z. if_true z (k (nil ∷ []) (gathers (x ∷ [])) false) (k (nil ∷ []) (gathers []) true)))

-- `drop` counts down, and `drop-while` calls its function up to the first element that passes
abbrev pub Dropped : Type 0
Dropped =
    ((x : Value ℕ) (k : Onward ℕ) → enter (stage X.Drop (number 1) ∷ []) (number 1 ∷ []) (gathers []) x k ≡ k (number 0 ∷ []) (gathers []) false)
    × ((x : Value ℕ) (k : Onward ℕ) → enter (stage X.Drop (number 1) ∷ []) (number 0 ∷ []) (gathers []) x k ≡ k (number 0 ∷ []) (gathers (x ∷ [])) false)
    × ((p x : Value ℕ) (k : Onward ℕ) → enter (stage X.DropWhile p ∷ []) (bool true ∷ []) (gathers []) x k
    ≡ call p (x ∷ []) (λ z. if_true z (k (bool true ∷ []) (gathers []) false) (k (bool false ∷ []) (gathers (x ∷ [])) false)))
    × ((p x : Value ℕ) (k : Onward ℕ) → enter (stage X.DropWhile p ∷ []) (bool false ∷ []) (gathers []) x k ≡ k (bool false ∷ []) (gathers (x ∷ [])) false)

-- `mapcat` walks the answer of its function, `cat` the input, and each element enters the stages after it
abbrev pub Joined : Type 0
Joined =
    ((f g x : Value ℕ) (k : Onward ℕ) → enter (stage X.Mapcat f ∷ stage X.Map g ∷ []) (nil ∷ nil ∷ []) (gathers []) x k
    ≡ call f (x ∷ []) (λ y. enter_each (stage X.Map g ∷ []) (nil ∷ []) (gathers []) y (λ states sink done. k (nil ∷ states) sink done)))
    × ((x : Value ℕ) (k : Onward ℕ) → enter (function (T.Xf X.Cat) no_values ∷ []) (nil ∷ []) (gathers []) x k
    ≡ enter_each [] [] (gathers []) x (λ states sink done. k (nil ∷ states) sink done))

-- A group is passed on where it is full; what is left of one is passed on by the completion, and then by the stages after it.
abbrev pub Grouped : Type 0
Grouped =
    ((k : Onward ℕ) → enter (stage X.PartitionAll (number 2) ∷ []) (numbers [] ∷ []) (gathers []) (number 7) k ≡ k (numbers (number 7 ∷ []) ∷ []) (gathers []) false)
    × ((k : Onward ℕ) → enter (stage X.PartitionAll (number 2) ∷ []) (numbers (number 7 ∷ []) ∷ []) (gathers []) (number 8) k ≡ k (numbers [] ∷ []) (gathers (numbers (number 7 ∷ number 8 ∷ []) ∷ [])) false)
    × ((k : Sink ℕ → Plan ℕ) → complete (stage X.PartitionAll (number 2) ∷ []) (numbers (number 7 ∷ []) ∷ []) (gathers []) k ≡ k (gathers (numbers (number 7 ∷ []) ∷ [])))
    × ((f : Value ℕ) (k : Sink ℕ → Plan ℕ) → complete (stage X.PartitionAll (number 2) ∷ stage X.Map f ∷ []) (numbers (number 7 ∷ []) ∷ nil ∷ []) (gathers []) k ≡ call f (numbers (number 7 ∷ []) ∷ []) (λ y. k (gathers (y ∷ []))))
    × ((k : Sink ℕ → Plan ℕ) → complete (stage X.PartitionAll (number 2) ∷ stage X.Take (number 1) ∷ []) (numbers (number 7 ∷ []) ∷ number 0 ∷ []) (gathers []) k ≡ k (gathers []))

-- `take 3` keeps that three are left, and goes on with two where two are left; `map` keeps nothing
abbrev pub Kept : Type 0
Kept =
    ((f : Value ℕ) → kept (fresh (stage X.Map f ∷ stage X.Take (number 3) ∷ [])) ≡ number 3 ∷ [])
    × ((f : Value ℕ) → replaced (fresh (stage X.Map f ∷ stage X.Take (number 3) ∷ [])) (number 2 ∷ []) ≡ nil ∷ number 2 ∷ [])

-- what the words throw, and the part that `sequence` makes
abbrev pub Words : Type 0
Words =
    ((f c : Value ℕ) → stage_call B.Sequence (function (T.Builtin B.Inc) no_values ∷ c ∷ []) ≡ throw BadType)
    × ((c : Value ℕ) → stage_call B.Sequence (stage X.Take (number 3) ∷ c ∷ []) ≡ make_term Lazy O.Pull (stage X.Take (number 3) ∷ c ∷ number 3 ∷ []) (λ m. give (cell m)))
    × ((xf : Value ℕ) → stage_call B.Sequence (xf ∷ []) ≡ throw Arity)
    × ((xf f : Value ℕ) → stage_call B.Transduce (xf ∷ f ∷ []) ≡ throw Arity)
    × (stage_call {C = ℕ} B.Cat [] ≡ throw BadType)
