-- What goes on after an expression.
use Rattle.std.proofs.Common.{◌≡◌, List, [], ◌∷◌, ◌++◌, length, refl, ap, ◌∙◌, cond, true, false, nat_le, Bool}
use Rattle.seq_base.specs.declared.thrown.Thrown.TheVariants.{Depth, Overflow}
use Rattle.clj_script.specs.Trees.{Expr, literal, word, function_of, defined, local, vector_of, call_of, let_in, if_of, and_of, or_of, lazy_seq, Exprs, no_exprs, more_exprs}
use Rattle.seq_values.specs.Model.{Value, nil, bool, vector, values}
use Rattle.seq_plan.specs.Plan.{Plan, call, give, throw, then}
use Rattle.seq_plan.specs.Nodes.{if_true, is_truthy, with_value, with_members, depth, deepest, longest}
use Rattle.seq_meaning.specs.Evaluates.{eval, evals, while_true, until_true}

module _ {C : Type 0} where
  then_cond : (b : Bool) (p q : Plan C) (h : Value C → Plan C) → then (cond b p q) h ≡ cond b (then p h) (then q h)
  then_cond true p q h = refl
  then_cond false p q h = refl

  then_value : (v : Value C) (k h : Value C → Plan C) → then (with_value v k) h ≡ with_value v (λ w. then (k w) h)
  then_value v k h = then_cond (nat_le (depth v) deepest) (k v) (throw Depth) h

  then_members : (xs : List (Value C)) (k : List (Value C) → Plan C) (h : Value C → Plan C) → then (with_members xs k) h ≡ with_members xs (λ ys. then (k ys) h)
  then_members xs k h = then_cond (nat_le (length xs) longest) (k xs) (throw Overflow) h

  mutual
    pub then_eval : (defs : List (Value C)) (e : Expr) (env : List (Value C)) (k h : Value C → Plan C) → then (eval defs e env k) h ≡ eval defs e env (λ v. then (k v) h)
    then_eval defs (literal l) env k h = refl
    then_eval defs (word w) env k h = refl
    then_eval defs (function_of f) env k h = refl
    then_eval defs (defined form) env k h = refl
    then_eval defs (local i) env k h = refl
    then_eval defs (vector_of es) env k h =
        then_evals defs es env [] (λ xs. with_members xs (λ ys. with_value (vector (values ys)) k)) h
        ∙ ap (evals defs es env []) (λ i xs. (then_members xs (λ ys. with_value (vector (values ys)) k) h ∙ ap (with_members xs) (λ j ys. then_value (vector (values ys)) k h j)) i)
    then_eval defs (call_of f es) env k h =
        then_eval defs f env (λ v. evals defs es env [] (λ xs. call v xs k)) h
        ∙ ap (eval defs f env) (λ i v. then_evals defs es env [] (λ xs. call v xs k) h i)
    then_eval defs (let_in e b) env k h =
        then_eval defs e env (λ v. eval defs b (env ++ v ∷ []) k) h
        ∙ ap (eval defs e env) (λ i v. then_eval defs b (env ++ v ∷ []) k h i)
    then_eval defs (if_of t a b) env k h =
        then_eval defs t env (λ v. if_true v (eval defs a env k) (eval defs b env k)) h
        ∙ ap (eval defs t env) (λ i v. (then_cond (is_truthy v) (eval defs a env k) (eval defs b env k) h ∙ (λ j. cond (is_truthy v) (then_eval defs a env k h j) (then_eval defs b env k h j))) i)
    then_eval defs (and_of es) env k h = then_while defs es env (bool true) k h
    then_eval defs (or_of es) env k h = then_until defs es env nil k h
    then_eval defs (lazy_seq b) env k h = refl

    pub then_evals : (defs : List (Value C)) (es : Exprs) (env xs : List (Value C)) (k : List (Value C) → Plan C) (h : Value C → Plan C) → then (evals defs es env xs k) h ≡ evals defs es env xs (λ ys. then (k ys) h)
    then_evals defs no_exprs env xs k h = refl
    then_evals defs (more_exprs e es) env xs k h =
        then_eval defs e env (λ x. evals defs es env (xs ++ x ∷ []) k) h
        ∙ ap (eval defs e env) (λ i x. then_evals defs es env (xs ++ x ∷ []) k h i)

    then_while : (defs : List (Value C)) (es : Exprs) (env : List (Value C)) (v : Value C) (k h : Value C → Plan C) → then (while_true defs es env v k) h ≡ while_true defs es env v (λ w. then (k w) h)
    then_while defs no_exprs env v k h = refl
    then_while defs (more_exprs e es) env v k h =
        then_cond (is_truthy v) (eval defs e env (λ w. while_true defs es env w k)) (k v) h
        ∙ (λ i. cond (is_truthy v) ((then_eval defs e env (λ w. while_true defs es env w k) h ∙ ap (eval defs e env) (λ j w. then_while defs es env w k h j)) i) (then (k v) h))

    then_until : (defs : List (Value C)) (es : Exprs) (env : List (Value C)) (v : Value C) (k h : Value C → Plan C) → then (until_true defs es env v k) h ≡ until_true defs es env v (λ w. then (k w) h)
    then_until defs no_exprs env v k h = refl
    then_until defs (more_exprs e es) env v k h =
        then_cond (is_truthy v) (k v) (eval defs e env (λ w. until_true defs es env w k)) h
        ∙ (λ i. cond (is_truthy v) (then (k v) h) ((then_eval defs e env (λ w. until_true defs es env w k) h ∙ ap (eval defs e env) (λ j w. then_until defs es env w k h j)) i))

  -- a body gives its value to what waits for it
  pub body_gives : (defs : List (Value C)) (e : Expr) (env : List (Value C)) (h : Value C → Plan C) → then (eval defs e env give) h ≡ eval defs e env h
  body_gives defs e env h = then_eval defs e env give h
