-- Expressions, and what a work does by the rules of a table and by the program.
use Rattle.std.specs.Prelude.{ℕ, pred, List, [], ◌∷◌, ◌++◌, length, Option, Some, None, nat_eq, cond, slice_get, true}
use Rattle.seq_base.specs.declared.thrown.Thrown.TheVariants.{Arity, BadType}
use Rattle.seq_values.specs.declared.words.Kind.TheVariants.{Lazy}
use Rattle.seq_values.specs.declared.words.Op.{Op}
use Rattle.seq_values.specs.declared.words.Op.TheVariants.{Body}
use Rattle.seq_values.specs.declared.words.Target.TheVariants.{Builtin, User}
use Rattle.seq_values.specs.Model.{Value, nil, bool, int, keyword, text, vector, function, empty, cell, no_values, list, values, Term}
use Rattle.clj_script.specs.Trees.{Literal, nil_literal, bool_literal, int_literal, keyword_literal, text_literal, empty_literal, Expr, literal, word, function_of, defined, local, vector_of, call_of, let_in, if_of, and_of, or_of, lazy_seq, Exprs, no_exprs, more_exprs, Top, def, defn, prn, ledger}
use Rattle.seq_plan.specs.Plan.{Plan, call, give, throw, Rules}
use Rattle.seq_plan.specs.Nodes.{value_at, if_true, with_value, with_members, make_term}

abbrev pub value_of : {C : Type 0} → Literal → Value C
value_of nil_literal = nil
value_of (bool_literal b) = bool b
value_of (int_literal n) = int n
value_of (keyword_literal name) = keyword name
value_of (text_literal bytes) = text bytes
value_of empty_literal = empty

module _ {C : Type 0} where
  -- What an expression does, where `k` goes on with its value: `defs` are the values of the forms before, `env` those of the locals. Arguments are evaluated from left to right, after the head. Only calls take own steps.
  abbrev mutual
    pub eval : List (Value C) → Expr → List (Value C) → (Value C → Plan C) → Plan C
    eval defs (literal l) env k = k (value_of l)
    eval defs (word w) env k = k (function (Builtin w) no_values)
    eval defs (function_of f) env k = k (function (User f) no_values)
    eval defs (defined form) env k = k (value_at defs (pred form))
    eval defs (local i) env k = k (value_at env i)
    eval defs (vector_of es) env k = evals defs es env [] (λ xs. with_members xs (λ ys. with_value (vector (values ys)) k))
    eval defs (call_of h es) env k = eval defs h env (λ f. evals defs es env [] (λ xs. call f xs k))
    eval defs (let_in e b) env k = eval defs e env (λ v. eval defs b (env ++ v ∷ []) k)
    eval defs (if_of t a b) env k = eval defs t env (λ v. if_true v (eval defs a env k) (eval defs b env k))
    eval defs (and_of es) env k = while_true defs es env (bool true) k
    eval defs (or_of es) env k = until_true defs es env nil k
    eval defs (lazy_seq b) env k = make_term Lazy (Body b) env (λ m. k (cell m))

    -- the values in order; those so far come first
    pub evals : List (Value C) → Exprs → List (Value C) → List (Value C) → (List (Value C) → Plan C) → Plan C
    evals defs no_exprs env xs k = k xs
    evals defs (more_exprs e es) env xs k = eval defs e env (λ x. evals defs es env (xs ++ x ∷ []) k)

    -- `and`: the first value that is false or nil, or the last one
    pub while_true : List (Value C) → Exprs → List (Value C) → Value C → (Value C → Plan C) → Plan C
    while_true defs no_exprs env v k = k v
    while_true defs (more_exprs e es) env v k = if_true v (eval defs e env (λ w. while_true defs es env w k)) (k v)

    -- `or`: the first value that is true, or the last one
    pub until_true : List (Value C) → Exprs → List (Value C) → Value C → (Value C → Plan C) → Plan C
    until_true defs no_exprs env v k = k v
    until_true defs (more_exprs e es) env v k = if_true v (k v) (eval defs e env (λ w. until_true defs es env w k))

-- what a work goes by: the rules, the functions and bodies of the program, and the values of the forms before
pub record Script (C : Type 0) : Type 0 where
  pub rules : Rules C
  pub functions : List (List (ℕ × Expr))
  pub bodies : List Expr
  pub defs : List (Value C)

-- the body for so many arguments
abbrev pub body_for : List (ℕ × Expr) → ℕ → Option Expr
body_for [] n = None
body_for (b ∷ bs) n = cond (nat_eq b.0 n) (Some b.1) (body_for bs n)

abbrev pub body_in : Option (List (ℕ × Expr)) → ℕ → Option Expr
body_in None n = None
body_in (Some bs) n = body_for bs n

module _ {C : Type 0} (script : Script C) where
  -- a body with the values of its locals; no body takes so many
  abbrev pub with_body : Option Expr → List (Value C) → Plan C
  with_body None xs = throw Arity
  with_body (Some e) xs = eval script.defs e xs give

  -- What a call does after its own step.
  abbrev pub called : Value C → List (Value C) → Plan C
  called (function (User i) bs) xs = with_body (body_in (slice_get script.functions i) (length xs)) xs
  called (function t bs) xs = script.rules.on_call t (list bs) xs
  called _ xs = throw BadType

  -- What the work of a part does.
  abbrev pub term_plan : Term C → Plan C
  term_plan t = of_op t.op t.args
    where
      of_op : Op → List (Value C) → Plan C
      of_op (Body b) xs = with_body (slice_get script.bodies b) xs
      of_op op xs = script.rules.on_term op xs

  -- What the work of a top form does. `prn` gives the text of its line without the newline.
  abbrev pub form_plan : Top → Plan C
  form_plan (def name e) = eval script.defs e [] give
  form_plan defn = give nil
  form_plan (prn e) = eval script.defs e [] script.rules.on_print
  form_plan ledger = give nil
