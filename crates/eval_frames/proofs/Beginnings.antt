-- What a work begins with.
use Rattle.std.proofs.Common.{◌≡◌, ℕ, zero, suc, ◌*◌, ◌≤◌, List, [], ◌∷◌, Option, Some, None, refl, sym, ap, subst, ◌∙◌, arith}
use Rattle.std.specs.Prelude.{slice_get, sum_by}
use Rattle.std.specs.Option.{option_map}
use Rattle.std.proofs.Math.Nat.{le-max_left, le-max_right}
use Rattle.seq_base.specs.declared.thrown.Thrown.TheVariants.{Arity}
use Rattle.clj_script.specs.Nodes.{at}
use Rattle.clj_script.specs.Seen.{seen, trees}
use Rattle.clj_script.specs.Trees.{Expr}
use Rattle.seq_values.specs.Model as M
use Rattle.seq_values.specs.Plain.{plains, plain_term}
use Rattle.seq_values.specs.declared.words.Op.{Op}
use Rattle.seq_values.specs.declared.words.Op.TheVariants as O
use Rattle.seq_values.specs.declared.term.Term.{Term}
use Rattle.seq_plan.specs.Plan.{Plan, give, throw, then}
use Rattle.seq_plan.proofs.Thens.{then_gives}
use Rattle.seq_meaning.specs.Evaluates.{Script, with_body, term_plan}
use Rattle.eval_frames.specs.Parts.{tree, IsRuledTerm}
use Rattle.eval_frames.specs.Frames.{Ground, script_in, under, beneath, evaluated}
use Rattle.eval_frames.specs.Weights.{weight, heaviest, heaviest_of, heaviest_function, rest_weight, step_weight, frame_weight}
use Rattle.eval_frames.specs.declared.state.Rest.{Rest}

-- ## The plan of a term

module _ (script : Script ℕ) where
  -- the terms that the rules have
  ruled_term : (op : Op) (xs : List (M.Value ℕ)) → IsRuledTerm op → term_plan script (record { op = op; args = xs }) ≡ script.rules.on_term op xs
  ruled_term (O.Body b) xs h = absurd (h b refl)
  ruled_term O.Map xs h = refl
  ruled_term O.MapN xs h = refl
  ruled_term O.Filter xs h = refl
  ruled_term O.Keep xs h = refl
  ruled_term O.Take xs h = refl
  ruled_term O.TakeWhile xs h = refl
  ruled_term O.Drop xs h = refl
  ruled_term O.DropWhile xs h = refl
  ruled_term O.Concat xs h = refl
  ruled_term O.Mapcat xs h = refl
  ruled_term O.Next xs h = refl
  ruled_term O.Repeat xs h = refl
  ruled_term O.Cycle xs h = refl
  ruled_term O.Parts xs h = refl
  ruled_term O.Pull xs h = refl
  ruled_term O.Rets xs h = refl
  ruled_term O.Step xs h = refl
  ruled_term O.Derefs xs h = refl
  ruled_term O.Call xs h = refl
  ruled_term O.Ahead xs h = refl
  ruled_term O.AheadOf xs h = refl
  ruled_term O.Near xs h = refl
  ruled_term O.Fold xs h = refl

  -- the body of a `lazy-seq`
  body_term : (op : Op) (number : ℕ) (xs : List (M.Value ℕ)) → op ≡ O.Body number → term_plan script (record { op = op; args = xs }) ≡ with_body script (slice_get script.bodies number) xs
  body_term op number xs e = ap (λ o. term_plan script (record { op = o; args = xs })) e

module _ {S : Type 0} (by : Ground S) (t : Term) where
  pub rule_begins : (p : Plan ℕ) → IsRuledTerm t.op → p ≡ (by.table by.code.processors).on_term t.op (plains t.args) → then p give ≡ term_plan (script_in by) (plain_term t)
  rule_begins p h e = then_gives p ∙ (e ∙ sym (ruled_term (script_in by) t.op (plains t.args) h))

  module _ (number : ℕ) (o : Option ℕ) (is : t.op ≡ O.Body number) (found : option_map (at (trees by.code.program)) o ≡ slice_get (seen by.code.program).bodies number) where
    body_begins : term_plan (script_in by) (plain_term t) ≡ with_body (script_in by) (option_map (at (trees by.code.program)) o) (plains t.args)
    body_begins = body_term (script_in by) t.op number (plains t.args) is ∙ ap (λ b. with_body (script_in by) b (plains t.args)) (sym found)

    -- no body has the number
    pub no_body_begins : o ≡ None → term_plan (script_in by) (plain_term t) ≡ throw Arity
    no_body_begins z = body_begins ∙ ap (λ b. with_body (script_in by) (option_map (at (trees by.code.program)) b) (plains t.args)) z

    pub some_body_begins : (expr : ℕ) → o ≡ Some expr → evaluated by.code expr (plains t.args) give ≡ term_plan (script_in by) (plain_term t)
    some_body_begins expr z = sym (body_begins ∙ ap (λ b. with_body (script_in by) (option_map (at (trees by.code.program)) b) (plains t.args)) z)

    pub some_body_weight : (expr : ℕ) → o ≡ Some expr → weight (tree by.code expr) ≤ heaviest (seen by.code.program)
    some_body_weight expr z =
        let h = in_bodies (seen by.code.program).bodies number (tree by.code expr) (sym found ∙ ap (option_map (at (trees by.code.program))) z) in
        let m = le-max_right (heaviest_function (seen by.code.program).functions) (heaviest_of (seen by.code.program).bodies) in
        omega (arith, h, m)
      where
        in_bodies : (es : List Expr) (i : ℕ) (e : Expr) → slice_get es i ≡ Some e → weight e ≤ heaviest_of es
        in_bodies [] i e p = absurd cc
        in_bodies (x ∷ xs) zero e p = let q : x ≡ e = cc in subst (λ y. weight y ≤ heaviest_of (x ∷ xs)) q (le-max_left (weight x) (heaviest_of xs))
        in_bodies (x ∷ xs) (suc i) e p = let h = in_bodies xs i e p in let k = le-max_right (weight x) (heaviest_of xs) in omega (arith, h, k)

-- ## No frame waits

module _ {S : Type 0} {b : _} (by : Ground S) (rest : Rest S b) (none : rest.frames.items ≡ []) where
  pub fresh_beneath : beneath by rest ≡ give
  fresh_beneath = ap (under by give) none

  pub fresh_weight : rest_weight by.code rest ≡ rest.left * step_weight by.code
  fresh_weight = let p : sum_by (frame_weight by.code) rest.frames.items ≡ 0 = ap (sum_by (frame_weight by.code)) none in omega (arith, p)

-- a form that prints has its value printed
pub prints : {S : Type 0} (by : Ground S) (expr : ℕ) → evaluated by.code expr [] (λ v. then ((script_in by).rules.on_print v) give) ≡ evaluated by.code expr [] (script_in by).rules.on_print
prints by expr = ap (evaluated by.code expr []) (λ i v. then_gives ((script_in by).rules.on_print v) i)
