-- What a call of a word answers, as the row of the word has it.
use Rattle.std.specs.Prelude.{◌≡◌, ℕ, ◌<◌, ◌≤◌, List, length, ℤ, cond, ◌+ℤ◌, ◌-ℤ◌, ◌*ℤ◌, Bool, not, int_lt, int_le, IsTrue, Option, Some, None}
use Rattle.std.specs.Int.{int_min, int_max}
use Rattle.std.specs.declared.result.Result.{Result}
use Rattle.std.specs.declared.result.Result.TheVariants as R
use Rattle.seq_base.specs.declared.thrown.Thrown.{Thrown}
use Rattle.seq_base.specs.declared.thrown.Thrown.TheVariants as E
use Rattle.seq_values.specs.Model as M
use Rattle.seq_values.specs.Depth.{depth_of_all}
use Rattle.seq_values.specs.Plain.{plain}
use Rattle.seq_values.specs.WellFormed.{is_well_formed}
use Rattle.seq_values.specs.declared.value.Value.{Value}
use Rattle.seq_values.specs.declared.term.CallStop.{CallStop}
use Rattle.seq_values.specs.declared.term.CallStop.TheVariants as S
use Rattle.seq_plan.specs.Plan.{Plan, give, throw}
use Rattle.seq_plan.specs.Nodes.{longest, is_truthy, is_nil}
use Rattle.core_rows.specs.Arithmetic.{fits}
use Rattle.core_rows.specs.Table.{is_true, is_false, is_number, is_keyword, is_text, is_vector, is_function, is_reduced}
use Rattle.core_fns.specs.declared.arithmetic.Operation.{Operation}
use Rattle.core_fns.specs.declared.arithmetic.Operation.TheVariants as O
use Rattle.core_fns.specs.declared.comparison.Comparison.{Comparison}
use Rattle.core_fns.specs.declared.comparison.Comparison.TheVariants as C
use Rattle.core_fns.specs.declared.comparison.Choice.{Choice}
use Rattle.core_fns.specs.declared.comparison.Choice.TheVariants as H
use Rattle.core_fns.specs.declared.kinds.Test.{Test}
use Rattle.core_fns.specs.declared.kinds.Test.TheVariants as T

-- the plan is over at once: it gives the value, which is well formed, or throws
abbrev pub Tells : Result Value Thrown → Plan ℕ → Type 0
Tells (R.Ok v) p = (p ≡ give (plain v)) × IsTrue (is_well_formed v)
Tells (R.Err e) p = p ≡ throw e

-- the same of a call that may find no memory, of which nothing is said
abbrev pub Answers : Result Value CallStop → Plan ℕ → Type 0
Answers (R.Ok v) p = (p ≡ give (plain v)) × IsTrue (is_well_formed v)
Answers (R.Err (S.Thrown e)) p = p ≡ throw e
Answers (R.Err S.Memory) p = Unit {0}

-- why no vector was made of some values that one value is to hold: there are too many, or one of them is too deep
abbrev pub Refuses : CallStop → List Value → Type 0
Refuses (S.Thrown E.Overflow) xs = longest < length xs
Refuses (S.Thrown E.Depth) xs = (length xs ≤ longest) × (255 < depth_of_all xs)
Refuses (S.Thrown _) xs = ⊥
Refuses S.Memory xs = Unit {0}

-- an answer that found memory
abbrev pub told : Result Value Thrown → Result Value CallStop
told (R.Ok v) = R.Ok v
told (R.Err e) = R.Err (S.Thrown e)

-- the integer that a value is
abbrev pub number : M.Value ℕ → Option ℤ
number (M.int n) = Some n
number _ = None

-- a number that stays within 64 bits
abbrev pub kept : ℤ → Option ℤ
kept n = cond (fits n) (Some n) None

-- gives a number, where there is one
abbrev pub given : Option ℤ → Plan ℕ
given (Some n) = give (M.int n)
given None = throw E.Overflow

abbrev pub operate : Operation → ℤ → ℤ → ℤ
operate O.Plus = ◌+ℤ◌
operate O.Minus = ◌-ℤ◌
operate O.Times = ◌*ℤ◌

abbrev pub is_so : Comparison → ℤ → ℤ → Bool
is_so C.Less = int_lt
is_so C.LessOrEqual = int_le
is_so C.Greater = λ a b. int_lt b a
is_so C.GreaterOrEqual = λ a b. int_le b a

abbrev pub chosen : Choice → ℤ → ℤ → ℤ
chosen H.Least = int_min
chosen H.Greatest = int_max

-- the next result from the left, where each one so far stayed within 64 bits
abbrev pub next_of : (ℤ → ℤ → ℤ) → Option ℤ → ℤ → Option ℤ
next_of op (Some n) m = kept (op n m)
next_of op None m = None

abbrev pub test_of : Test → M.Value ℕ → Bool
test_of T.Nil = is_nil
test_of T.Some = λ v. not (is_nil v)
test_of T.True = is_true
test_of T.False = is_false
test_of T.Not = λ v. not (is_truthy v)
test_of T.Number = is_number
test_of T.Keyword = is_keyword
test_of T.Text = is_text
test_of T.Vector = is_vector
test_of T.Function = is_function
test_of T.Reduced = is_reduced
