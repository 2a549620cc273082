-- Worked calls of words. Each is a computation over the rules.
use Rattle.std.specs.Prelude.{◌≡◌, ℕ, pos, negsuc, true, false, [], ◌∷◌}
use Rattle.seq_base.specs.declared.thrown.Thrown.TheVariants.{Overflow, Divide, Arity, BadType}
use Rattle.seq_values.specs.declared.words.Builtin.TheVariants as B
use Rattle.seq_values.specs.declared.words.Target.TheVariants as T
use Rattle.seq_values.specs.declared.words.XfKind.TheVariants as X
use Rattle.seq_values.specs.Model.{Value, nil, bool, int, vector, function, empty, cons, no_values, ◌&◌}
use Rattle.seq_plan.specs.Plan.{call, give, throw}
use Rattle.core_rows.specs.Table.{core_call, core_function}

-- -7 and 2, 7 and -2
abbrev pub Divisions : Type 0
Divisions =
    (core_call {C = ℕ} B.Quot (int (negsuc 6) ∷ int (pos 2) ∷ []) ≡ give (int (negsuc 2)))
    × (core_call {C = ℕ} B.Rem (int (negsuc 6) ∷ int (pos 2) ∷ []) ≡ give (int (negsuc 0)))
    × (core_call {C = ℕ} B.Mod (int (negsuc 6) ∷ int (pos 2) ∷ []) ≡ give (int (pos 1)))
    × (core_call {C = ℕ} B.Quot (int (pos 7) ∷ int (negsuc 1) ∷ []) ≡ give (int (negsuc 2)))
    × (core_call {C = ℕ} B.Rem (int (pos 7) ∷ int (negsuc 1) ∷ []) ≡ give (int (pos 1)))
    × (core_call {C = ℕ} B.Mod (int (pos 7) ∷ int (negsuc 1) ∷ []) ≡ give (int (negsuc 0)))
    × (core_call {C = ℕ} B.Mod (int (pos 6) ∷ int (negsuc 2) ∷ []) ≡ give (int (pos 0)))
    × (core_call {C = ℕ} B.Quot (int (pos 7) ∷ int (pos 0) ∷ []) ≡ throw Divide)
    × (core_call {C = ℕ} B.Quot (int (negsuc 9223372036854775807) ∷ int (negsuc 0) ∷ []) ≡ throw Overflow)
    × (core_call {C = ℕ} B.Rem (int (negsuc 9223372036854775807) ∷ int (negsuc 0) ∷ []) ≡ give (int (pos 0)))
    × (core_call {C = ℕ} B.Mod (int (negsuc 9223372036854775807) ∷ int (negsuc 0) ∷ []) ≡ give (int (pos 0)))

-- every argument is looked at before a sum leaves 64 bits, and each step of a sum has to stay within them
abbrev pub Sums : Type 0
Sums =
    (core_call {C = ℕ} B.Plus [] ≡ give (int (pos 0)))
    × (core_call {C = ℕ} B.Times [] ≡ give (int (pos 1)))
    × (core_call {C = ℕ} B.Minus [] ≡ throw Arity)
    × (core_call {C = ℕ} B.Minus (int (pos 5) ∷ []) ≡ give (int (negsuc 4)))
    × (core_call {C = ℕ} B.Minus (int (pos 5) ∷ int (pos 2) ∷ int (pos 4) ∷ []) ≡ give (int (negsuc 0)))
    × (core_call {C = ℕ} B.Plus (int (pos 9223372036854775807) ∷ int (pos 1) ∷ int (negsuc 0) ∷ []) ≡ throw Overflow)
    × (core_call {C = ℕ} B.Plus (int (pos 9223372036854775807) ∷ int (pos 1) ∷ nil ∷ []) ≡ throw BadType)
    × (core_call {C = ℕ} B.Inc (int (pos 9223372036854775807) ∷ []) ≡ throw Overflow)
    × (core_call {C = ℕ} B.Dec (int (negsuc 9223372036854775807) ∷ []) ≡ throw Overflow)
    × (core_call {C = ℕ} B.Max (int (pos 2) ∷ int (pos 9) ∷ int (pos 4) ∷ []) ≡ give (int (pos 9)))
    × (core_call {C = ℕ} B.Min (int (pos 2) ∷ int (pos 9) ∷ int (negsuc 3) ∷ []) ≡ give (int (negsuc 3)))
    × (core_call {C = ℕ} B.Less (int (pos 1) ∷ int (pos 2) ∷ int (pos 2) ∷ []) ≡ give (bool false))
    × (core_call {C = ℕ} B.LessOrEqual (int (pos 1) ∷ int (pos 2) ∷ int (pos 2) ∷ []) ≡ give (bool true))
    × (core_call {C = ℕ} B.Less (int (pos 1) ∷ []) ≡ give (bool true))

-- `comp` calls the last function first; a composition of transducers isn't called
abbrev pub Functions : Type 0
Functions =
    ((g x : Value ℕ) → core_function {C = ℕ} T.Comp (function (T.User 0) no_values ∷ g ∷ []) (x ∷ []) ≡ call g (x ∷ []) (λ y. call (function (T.User 0) no_values) (y ∷ []) give))
    × ((f x : Value ℕ) → core_function {C = ℕ} T.Comp (function (T.Xf X.Map) (f & no_values) ∷ []) (x ∷ []) ≡ throw BadType)
    × (core_call {C = ℕ} B.Comp [] ≡ give (function (T.Builtin B.Identity) no_values))
    × (core_call {C = ℕ} B.List (int (pos 1) ∷ int (pos 2) ∷ []) ≡ give (cons (int (pos 2) & int (pos 1) & no_values) nil))
    × (core_call {C = ℕ} B.List [] ≡ give empty)
    × (core_call {C = ℕ} B.Vector [] ≡ give (vector no_values))
