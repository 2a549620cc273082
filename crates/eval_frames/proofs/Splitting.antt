-- `and` and `or`, and expressions whose values are gathered.
use Rattle.std.proofs.Common.{◌≡◌, ℕ, ◌+◌, ◌≤◌, List, [], ◌∷◌, ◌++◌, true, false, cond, refl, sym, ap, subst, ◌∙◌, arith}
use Rattle.std.proofs.Common.{length}
use Rattle.std.proofs.lemmas.Bool.{le-leb}
use Rattle.std.proofs.lemmas.List.{length-map}
use Rattle.seq_base.specs.declared.thrown.Thrown.TheVariants.{Overflow}
use Rattle.clj_script.specs.Trees.{Expr, literal, word, function_of, defined, local, vector_of, call_of, let_in, if_of, and_of, or_of, lazy_seq, Exprs, no_exprs, more_exprs}
use Rattle.seq_values.specs.Model.{Value, vector, values}
use Rattle.seq_values.specs.Plain.{plain, plains}
use Rattle.seq_values.specs.declared.value.Value as C
use Rattle.seq_plan.specs.Plan.{Plan, throw}
use Rattle.seq_plan.specs.Nodes.{is_truthy, with_members, with_value}
use Rattle.seq_turns.specs.Making.{made, Makes}
use Rattle.seq_turns.specs.declared.made.Made.{Made}
use Rattle.seq_meaning.specs.Evaluates.{eval, evals, while_true, until_true}
use Rattle.seq_turns.specs.declared.proper.ProperList.{ProperList}
use Rattle.eval_frames.specs.Parts.{tree, parts_in, to_come, Splits}
use Rattle.eval_frames.specs.Frames.{gathered}
use Rattle.eval_frames.specs.declared.state.Purpose.TheVariants as P
use Rattle.eval_frames.specs.Weights.{weight, weights}
use Rattle.eval_frames.specs.declared.state.Code.{Code}
use Rattle.eval_frames.specs.declared.state.Members.{Members}
use Rattle.eval_frames.specs.declared.state.Ahead.TheVariants as A

module _ (defs env : List (Value ℕ)) (v : Value ℕ) (k : Value ℕ → Plan ℕ) where
  pub while_false : (es : Exprs) → is_truthy v ≡ false → k v ≡ while_true defs es env v k
  while_false no_exprs h = refl
  while_false (more_exprs e es) h = sym (ap (λ b. cond b (eval defs e env (λ w. while_true defs es env w k)) (k v)) h)

  pub while_none : (es : Exprs) → es ≡ no_exprs → k v ≡ while_true defs es env v k
  while_none es e = sym (ap (λ x. while_true defs x env v k) e)

  pub until_true_value : (es : Exprs) → is_truthy v ≡ true → k v ≡ until_true defs es env v k
  until_true_value no_exprs h = refl
  until_true_value (more_exprs e es) h = sym (ap (λ b. cond b (k v) (eval defs e env (λ w. until_true defs es env w k))) h)

  pub until_none : (es : Exprs) → es ≡ no_exprs → k v ≡ until_true defs es env v k
  until_none es e = sym (ap (λ x. until_true defs x env v k) e)

module _ (code : Code) (m : Members) (n : ℕ) (locals : ProperList) (later : Members) (s : Splits code m (A.Part n locals later)) where
  -- the weight of what is left after the first
  pub split_weight : weights (to_come code m) ≡ weight (tree code n) + 1 + weights (to_come code later)
  split_weight = ap weights s.0

  abbrev env : List (Value ℕ)
  env = plains m.locals.items

  later_env : plains later.locals.items ≡ env
  later_env = ap plains s.2

  first_env : plains locals.items ≡ env
  first_env = ap plains s.1

  module _ (defs : List (Value ℕ)) (v : Value ℕ) (k : Value ℕ → Plan ℕ) where
    pub while_part : is_truthy v ≡ true → eval defs (tree code n) (plains locals.items) (λ w. while_true defs (to_come code later) (plains later.locals.items) w k) ≡ while_true defs (to_come code m) (plains m.locals.items) v k
    while_part h =
        (λ i. eval defs (tree code n) (first_env i) (λ w. while_true defs (to_come code later) (later_env i) w k))
        ∙ sym (ap (λ b. cond b (eval defs (tree code n) env (λ w. while_true defs (to_come code later) env w k)) (k v)) h)
        ∙ sym (ap (λ x. while_true defs x env v k) s.0)

    pub until_part : is_truthy v ≡ false → eval defs (tree code n) (plains locals.items) (λ w. until_true defs (to_come code later) (plains later.locals.items) w k) ≡ until_true defs (to_come code m) (plains m.locals.items) v k
    until_part h =
        (λ i. eval defs (tree code n) (first_env i) (λ w. until_true defs (to_come code later) (later_env i) w k))
        ∙ sym (ap (λ b. cond b (k v) (eval defs (tree code n) env (λ w. until_true defs (to_come code later) env w k))) h)
        ∙ sym (ap (λ x. until_true defs x env v k) s.0)

  module _ (defs xs : List (Value ℕ)) (k : List (Value ℕ) → Plan ℕ) where
    pub evals_part : eval defs (tree code n) (plains locals.items) (λ x. evals defs (to_come code later) (plains later.locals.items) (xs ++ x ∷ []) k) ≡ evals defs (to_come code m) (plains m.locals.items) xs k
    evals_part =
        (λ i. eval defs (tree code n) (first_env i) (λ x. evals defs (to_come code later) (later_env i) (xs ++ x ∷ []) k))
        ∙ sym (ap (λ es. evals defs es env xs k) s.0)

pub evals_none : (defs env xs : List (Value ℕ)) (k : List (Value ℕ) → Plan ℕ) (es : Exprs) → es ≡ no_exprs → k xs ≡ evals defs es env xs k
evals_none defs env xs k es e = sym (ap (λ x. evals defs x env xs k) e)

-- ## From the first part on

pub first_come : (code : Code) (n : ℕ) (locals : ProperList) (m : Members) → m ≡ record { expr = n; at = 0; locals = locals } → to_come code m ≡ parts_in (tree code n)
first_come code n locals m e = ap (to_come code) e

pub first_locals : (n : ℕ) (locals : ProperList) (m : Members) → m ≡ record { expr = n; at = 0; locals = locals } → plains m.locals.items ≡ plains locals.items
first_locals n locals m e = ap (λ x. plains x.locals.items) e

pub weighs_some : (e : Expr) → 1 ≤ weight e
weighs_some (literal l) = omega arith
weighs_some (word w) = omega arith
weighs_some (function_of f) = omega arith
weighs_some (defined form) = omega arith
weighs_some (local i) = omega arith
weighs_some (vector_of es) = omega arith
weighs_some (call_of h es) = omega arith
weighs_some (let_in e b) = omega arith
weighs_some (if_of t a b) = omega arith
weighs_some (and_of es) = omega arith
weighs_some (or_of es) = omega arith
weighs_some (lazy_seq b) = omega arith

-- ## Vectors

members_few : (xs : List (Value ℕ)) (k : List (Value ℕ) → Plan ℕ) → length xs ≤ 4294967295 → with_members xs k ≡ k xs
members_few xs k h = ap (λ b. cond b (k xs) (throw Overflow)) (le-leb (length xs) 4294967295 h)

pub vector_goes : (xs : List C.Value) (m : Made) (k : Value ℕ → Plan ℕ) → length xs ≤ 4294967295 → Makes (with_value (vector (values (plains xs)))) m → made m k ≡ gathered P.Vector k (plains xs)
vector_goes xs m k h g =
    let e : length (plains xs) ≤ 4294967295 = subst (λ n. n ≤ 4294967295) (sym (length-map xs plain)) h in
    sym (members_few (plains xs) (λ ys. with_value (vector (values ys)) k) e ∙ g.goes k)
