-- The expressions of a program by their numbers, and what a work goes by.
use Rattle.std.specs.Prelude.{◌≡◌, ℕ, zero, suc, Bool, true, false, List, Option, Some, None}
use Rattle.clj_script.specs.Nodes.{at}
use Rattle.clj_script.specs.Seen.{seen, trees}
use Rattle.clj_script.specs.Trees.{Expr, literal, word, function_of, defined, local, vector_of, call_of, let_in, if_of, and_of, or_of, lazy_seq, Exprs, no_exprs, more_exprs}
use Rattle.seq_plan.specs.Nodes.{now, asks_for, no_seq, found}
use Rattle.seq_plan.specs.Plan.{Plan, Rules}
use Rattle.seq_values.specs.Model as M
use Rattle.seq_values.specs.Plain.{plain, plains}
use Rattle.seq_meaning.specs.Evaluates.{Script, eval}
use Rattle.seq_values.specs.declared.words.Op.{Op}
use Rattle.seq_values.specs.declared.words.Op.TheVariants as O
use Rattle.seq_values.specs.declared.words.Target.{Target}
use Rattle.seq_values.specs.declared.words.Target.TheVariants as T
use Rattle.eval_frames.specs.declared.state.Ahead.{Ahead}
use Rattle.eval_frames.specs.declared.state.Ahead.TheVariants as A
use Rattle.eval_frames.specs.declared.state.Shape.{Shape}
use Rattle.eval_frames.specs.declared.state.Shape.TheVariants as S
use Rattle.eval_frames.specs.declared.state.Code.{Code}
use Rattle.eval_frames.specs.declared.state.Members.{Members}
use Rattle.eval_frames.specs.declared.state.FoundNow.{FoundNow}
use Rattle.eval_frames.specs.declared.state.FoundNow.TheVariants as F

-- what a work goes by, over the rules of a language
abbrev pub script_of : (ℕ → Rules ℕ) → Code → Script ℕ
script_of table code = record { rules = table code.processors; functions = (seen code.program).functions; bodies = (seen code.program).bodies; defs = plains code.values.items }

-- the expression with a number
abbrev pub tree : Code → ℕ → Expr
tree code n = at (trees code.program) n

-- the parts of a vector, an `and` or an `or`, or the arguments of a call
abbrev pub parts_in : Expr → Exprs
parts_in (literal l) = no_exprs
parts_in (word w) = no_exprs
parts_in (function_of f) = no_exprs
parts_in (defined form) = no_exprs
parts_in (local i) = no_exprs
parts_in (vector_of es) = es
parts_in (call_of h es) = es
parts_in (let_in e b) = no_exprs
parts_in (if_of t a b) = no_exprs
parts_in (and_of es) = es
parts_in (or_of es) = es
parts_in (lazy_seq b) = no_exprs

-- those from a place on
abbrev pub from_place : ℕ → Exprs → Exprs
from_place zero es = es
from_place (suc n) no_exprs = no_exprs
from_place (suc n) (more_exprs e es) = from_place n es

-- the expressions that are still to be evaluated
abbrev pub to_come : Code → Members → Exprs
to_come code m = from_place m.at (parts_in (tree code m.expr))

-- the number of the part at a place, where the parts from there on are these and those behind it are others
pub data Begins (code : Code) (es later : Exprs) : Option ℕ → Type 0 where
  begins_none : es ≡ no_exprs → Begins code es later None
  begins_with : {n : ℕ} → es ≡ more_exprs (tree code n) later → Begins code es later (Some n)

-- the first of these expressions and those behind it, all with the same locals
abbrev pub Splits : Code → Members → Ahead → Type 0
Splits code m A.Over = to_come code m ≡ no_exprs
Splits code m (A.Part n locals later) = (to_come code m ≡ more_exprs (tree code n) (to_come code later)) × (locals.items ≡ m.locals.items) × (later.locals.items ≡ m.locals.items)

-- what an expression is, by the numbers of those that it is made of
abbrev pub HasShape : Code → Expr → Shape → Type 0
HasShape code t (S.Value v) = (defs env : List (M.Value ℕ)) (k : M.Value ℕ → Plan ℕ) → eval defs t env k ≡ k (plain v.value)
HasShape code t (S.Defined form) = t ≡ defined form
HasShape code t (S.Local n) = t ≡ local n
HasShape code t S.Vector = t ≡ vector_of (parts_in t)
HasShape code t (S.Call head) = t ≡ call_of (tree code head) (parts_in t)
HasShape code t (S.Let value body) = t ≡ let_in (tree code value) (tree code body)
HasShape code t (S.If test a z) = t ≡ if_of (tree code test) (tree code a) (tree code z)
HasShape code t S.And = t ≡ and_of (parts_in t)
HasShape code t S.Or = t ≡ or_of (parts_in t)
HasShape code t (S.LazySeq body) = t ≡ lazy_seq body

-- a function that the rules have
abbrev pub IsRuled : Target → Type 0
IsRuled t = (number : ℕ) → ¬ (t ≡ T.User number)

-- what may be called
abbrev pub is_function : M.Value ℕ → Bool
is_function (M.function t xs) = true
is_function _ = false

-- a term that the rules have
abbrev pub IsRuledTerm : Op → Type 0
IsRuledTerm op = (number : ℕ) → ¬ (op ≡ O.Body number)

-- what `seq` of a value finds
abbrev pub FindsNow : FoundNow → M.Value ℕ → Type 0
FindsNow (F.Now s) v = found v ≡ now (plain s.value)
FindsNow (F.Asks c) v = found v ≡ asks_for c
FindsNow F.NoSeq v = found v ≡ no_seq
