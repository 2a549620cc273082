-- All that a program names is there, so that no look-up of an evaluator fails.
use Rattle.std.specs.Prelude.{◌≡◌, ℕ, zero, suc, ◌<◌, List, [], ◌∷◌, length, take, Some, slice_get}
use Rattle.std.specs.List.{AllByRecursion}
use Rattle.seq_values.specs.declared.words.Builtin.{Builtin}
use Rattle.clj_script.specs.Trees.{Literal, Expr, literal, word, function_of, defined, local, vector_of, call_of, let_in, if_of, and_of, or_of, lazy_seq, Exprs, no_exprs, more_exprs, Top, def, defn, prn, ledger, Program}

-- how many functions these forms define
abbrev pub functions_in : List Top → ℕ
functions_in [] = zero
functions_in (def name e ∷ tops) = functions_in tops
functions_in (defn ∷ tops) = suc (functions_in tops)
functions_in (prn e ∷ tops) = functions_in tops
functions_in (ledger ∷ tops) = functions_in tops

-- the form with this number, from 1, is a `def`
pub data IsDefIn (tops : List Top) : ℕ → Type 0 where
  is_def_in : {i name : ℕ} {e : Expr} → slice_get tops i ≡ Some (def name e) → IsDefIn tops (suc i)

-- With so many functions, these bodies of `lazy-seq`s and these `def` forms:
module _ (functions : ℕ) (bodies : List Expr) (IsDef : ℕ → Type 0) where
  mutual
    -- With so many locals in scope, all that an expression names is there: its functions, its `def` forms and its locals. A
    -- binding puts one more local in scope for its body. A `lazy-seq` has a body, which finds all that it names with the locals
    -- in scope at the `lazy-seq`.
    pub data IsClosed : ℕ → Expr → Type 0 where
      closed_literal : {n : ℕ} {l : Literal} → IsClosed n (literal l)
      closed_word : {n : ℕ} {w : Builtin} → IsClosed n (word w)
      closed_function : {n f : ℕ} → f < functions → IsClosed n (function_of f)
      closed_defined : {n form : ℕ} → IsDef form → IsClosed n (defined form)
      closed_local : {n i : ℕ} → i < n → IsClosed n (local i)
      closed_vector : {n : ℕ} {es : Exprs} → AreClosed n es → IsClosed n (vector_of es)
      closed_call : {n : ℕ} {head : Expr} {args : Exprs} → IsClosed n head → AreClosed n args → IsClosed n (call_of head args)
      closed_let : {n : ℕ} {value body : Expr} → IsClosed n value → IsClosed (suc n) body → IsClosed n (let_in value body)
      closed_if : {n : ℕ} {test a z : Expr} → IsClosed n test → IsClosed n a → IsClosed n z → IsClosed n (if_of test a z)
      closed_and : {n : ℕ} {es : Exprs} → AreClosed n es → IsClosed n (and_of es)
      closed_or : {n : ℕ} {es : Exprs} → AreClosed n es → IsClosed n (or_of es)
      closed_lazy_seq : {n b : ℕ} {body : Expr} → slice_get bodies b ≡ Some body → IsClosed n body → IsClosed n (lazy_seq b)

    pub data AreClosed : ℕ → Exprs → Type 0 where
      closed_none : {n : ℕ} → AreClosed n no_exprs
      closed_more : {n : ℕ} {e : Expr} {es : Exprs} → IsClosed n e → AreClosed n es → AreClosed n (more_exprs e es)

-- an expression behind these forms, over their functions and their `def` forms
abbrev pub IsClosedBehind : Program → List Top → ℕ → Expr → Type 0
IsClosedBehind program before n e = IsClosed (functions_in before) program.bodies (IsDefIn before) n e

-- a body of the function that is defined behind these forms, with its parameters in scope; it may name the function itself
abbrev pub IsClosedBody : Program → List Top → ℕ × Expr → Type 0
IsClosedBody program before body = IsClosed (suc (functions_in before)) program.bodies (IsDefIn before) body.0 body.1

-- A form behind these names only what they define. No local is in scope at the top.
pub data IsClosedTop (program : Program) (before : List Top) : Top → Type 0 where
  closed_def : {name : ℕ} {e : Expr} → name < length program.names → IsClosedBehind program before 0 e → IsClosedTop program before (def name e)
  closed_defn : {function : List (ℕ × Expr)} → slice_get program.functions (functions_in before) ≡ Some function → AllByRecursion (IsClosedBody program before) function → IsClosedTop program before defn
  closed_prn : {e : Expr} → IsClosedBehind program before 0 e → IsClosedTop program before (prn e)
  closed_ledger : IsClosedTop program before ledger

-- Each form of a program names only what the forms before it define, and each function is defined by its form.
pub record IsClosedProgram (program : Program) : Type 0 where
  pub tops : (i : ℕ) (t : Top) → slice_get program.tops i ≡ Some t → IsClosedTop program (take i program.tops) t
  pub functions : length program.functions ≡ functions_in program.tops
