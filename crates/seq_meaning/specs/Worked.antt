-- Worked scripts over the small table, as programs and as statements of what they mean.
use Rattle.std.specs.Prelude.{ℕ, ◌≤◌, pos, List, [], ◌∷◌, codes}
use Rattle.seq_base.specs.declared.thrown.Thrown.{Thrown}
use Rattle.seq_base.specs.declared.thrown.Thrown.TheVariants.{BadType, Steps}
use Rattle.seq_values.specs.declared.words.Builtin.{Builtin}
use Rattle.seq_values.specs.declared.words.Builtin.TheVariants as B
use Rattle.seq_values.specs.Model.{text, gave, threw}
use Rattle.clj_script.specs.Trees.{int_literal, keyword_literal, Expr, literal, word, defined, vector_of, call_of, exprs, Top, def, prn, Program}
use Rattle.seq_meaning.specs.Names.{Name, form, retry}
use Rattle.seq_meaning.specs.Gives.{Gives}
use Rattle.seq_meaning.specs.Counts.{MadeBy, Realised, Failed, HasSize}
use Rattle.seq_meaning.specs.SmallTable.{small}

abbrev pub number : ℕ → Expr
number n = literal (int_literal (pos n))

-- a call of a built-in word
abbrev pub calls : Builtin → List Expr → Expr
calls b es = call_of (word b) (exprs es)

-- a program of these top forms, without functions
abbrev pub forms : List Top → Program
forms tops = record { functions = []; bodies = []; names = codes "q" ∷ []; tops = tops }

-- with these steps and these top forms the evaluation gives this text, or throws this error
abbrev pub Prints : List Top → ℕ → Name → List ℕ → Type 0
Prints tops limit e bytes = Gives small (forms tops) limit e (gave (text bytes))

abbrev pub Throws : List Top → ℕ → Name → Thrown → Type 0
Throws tops limit e why = Gives small (forms tops) limit e (threw why)

-- so many parts are made, realised and failed, as a ledger after form k says
abbrev pub Totals : List Top → ℕ → ℕ → ℕ → ℕ → ℕ → Type 0
Totals tops limit k makes realises fails =
    HasSize (MadeBy small (forms tops) limit k) makes × HasSize (Realised small (forms tops) limit k) realises × HasSize (Failed small (forms tops) limit k) fails

-- (prn (reduce + (take 3 (map inc (range 3)))))
abbrev pub sum_form : Top
sum_form = prn (calls B.Reduce (word B.Plus ∷ calls B.Take (number 3 ∷ calls B.Map (word B.Inc ∷ calls B.Range (number 3 ∷ []) ∷ []) ∷ []) ∷ []))

abbrev pub sum_of_three : List Top
sum_of_three = sum_form ∷ []

-- The form takes fourteen own steps: with as many or more it writes 6, with one less it throws. Its parts are the part of `map`, which is one chunk, the part behind that chunk, which nobody asks, and four parts of `take`.
abbrev pub SumOfThree : Type 0
SumOfThree =
    ((limit : ℕ) → 14 ≤ limit → Prints sum_of_three limit (form 1) (codes "6"))
    × Throws sum_of_three 13 (form 1) Steps
    × ((limit : ℕ) → 13 ≤ limit → Totals sum_of_three limit 1 6 5 0)

-- (prn (inc 1))
abbrev pub inc_form : Top
inc_form = prn (calls B.Inc (number 1 ∷ []))

abbrev pub one_more_than_one : List Top
one_more_than_one = inc_form ∷ []

-- The two steps are the call and the visit by printing.
abbrev pub OneMoreThanOne : Type 0
OneMoreThanOne = ((limit : ℕ) → 2 ≤ limit → Prints one_more_than_one limit (form 1) (codes "2")) × Throws one_more_than_one 1 (form 1) Steps

-- (def q (map inc [:a])) (prn (first q)) (prn (first q))
abbrev pub def_form : Top
def_form = def 0 (calls B.Map (word B.Inc ∷ vector_of (exprs (literal (keyword_literal (codes "a")) ∷ [])) ∷ []))

abbrev pub first_form : Top
first_form = prn (calls B.First (defined 1 ∷ []))

abbrev pub asked_twice : List Top
asked_twice = def_form ∷ first_form ∷ first_form ∷ []

-- Each form that asks the part makes an attempt of its own, which fails. A form takes two steps, the call and the ask: with one it throws before it asks.
abbrev pub AskedTwice : Type 0
AskedTwice =
    ((limit : ℕ) → 2 ≤ limit → Throws asked_twice limit (form 2) BadType
    × Throws asked_twice limit (form 3) BadType
    × Failed small (forms asked_twice) limit 3 (retry (form 2))
    × Failed small (forms asked_twice) limit 3 (retry (form 3))
    × Totals asked_twice limit 3 1 0 2)
    × Throws asked_twice 1 (form 2) Steps
    × Throws asked_twice 1 (form 3) Steps

-- (prn (iterate inc 0))
abbrev pub iterate_form : Top
iterate_form = prn (calls B.Iterate (word B.Inc ∷ number 0 ∷ []))

abbrev pub without_end : List Top
without_end = iterate_form ∷ []

-- The call, the visit of the whole, and then a visit and an ask for each element. So with six steps two parts are realised, and with five one is.
abbrev pub WithoutEnd : Type 0
WithoutEnd =
    Throws without_end 6 (form 1) Steps
    × Totals without_end 6 1 3 2 0
    × Throws without_end 5 (form 1) Steps
    × Totals without_end 5 1 2 1 0
