-- Calls.
use Rattle.std.proofs.Common.{◌≡◌, ℕ, ◌+◌, ◌-◌, ◌*◌, ◌≤◌, List, length, false, Option, Some, None, refl, sym, ap, subst, ◌∙◌, rules, arith}
use Rattle.std.specs.Prelude.{slice_get, sum_by}
use Rattle.std.specs.Option.{option_map}
use Rattle.std.proofs.Math.Nat.{le-max_left}
use Rattle.std.proofs.lemmas.List.{length-map}
use Rattle.seq_base.specs.declared.thrown.Thrown.{Thrown}
use Rattle.seq_base.specs.declared.thrown.Thrown.TheVariants.{Arity, BadType}
use Rattle.clj_script.specs.Nodes.{at}
use Rattle.clj_script.specs.Seen.{seen, trees, body_of}
use Rattle.seq_values.specs.Model as M
use Rattle.seq_values.specs.Model.{◌&◌}
use Rattle.seq_values.specs.Plain.{plain, plains}
use Rattle.seq_values.specs.declared.value.Value.{Value}
use Rattle.seq_values.specs.declared.value.Value.TheVariants as V
use Rattle.seq_values.specs.declared.value.FnValue.{FnValue}
use Rattle.seq_values.specs.declared.value.Node.TheFolds.{the_lemmas}
use Rattle.seq_values.specs.declared.words.Target.{Target}
use Rattle.seq_values.specs.declared.words.Target.TheVariants as T
use Rattle.seq_plan.specs.Plan.{Plan, call, give, throw, then}
use Rattle.seq_plan.proofs.CursorLemmas.{list_values}
use Rattle.seq_meaning.specs.Evaluates.{Script, body_in, with_body, called}
use Rattle.eval_frames.specs.Parts.{tree, IsRuled, is_function}
use Rattle.eval_frames.specs.Frames.{Ground, script_in, under, beneath, evaluated}
use Rattle.eval_frames.specs.Leads.{Stands, Leads, Enters}
use Rattle.eval_frames.specs.Weights.{weight, heaviest, heaviest_body, heaviest_function, rest_weight, step_weight, frame_weight}
use Rattle.eval_frames.specs.declared.state.Rest.{Rest}
use Rattle.eval_frames.specs.declared.state.Runner.{Runner}
use Rattle.eval_frames.specs.declared.state.Event.TheVariants as E
use Rattle.eval_frames.specs.declared.state.Entered.{Entered}
use Rattle.eval_frames.specs.declared.state.Entered.TheVariants as N
use Rattle.eval_frames.proofs.Bodies.{bodies_same, in_functions}
use Rattle.eval_frames.proofs.Evals.{body_gives}
use Rattle.eval_frames.proofs.Moving.{stands, further, call_moves}

-- ## What is called

plain_fn : (f : FnValue) → plain (V.Function f) ≡ M.function f.target (M.values (plains f.bound))
plain_fn f = search (rules, the_lemmas)

module _ (script : Script ℕ) where
  not_called : (v : M.Value ℕ) (xs : List (M.Value ℕ)) → is_function v ≡ false → called script v xs ≡ throw BadType
  not_called M.nil xs h = refl
  not_called (M.bool b) xs h = refl
  not_called (M.int n) xs h = refl
  not_called (M.keyword n) xs h = refl
  not_called (M.text t) xs h = refl
  not_called (M.vector ys) xs h = refl
  not_called (M.function t ys) xs h = absurd cc
  not_called (M.reduced v) xs h = refl
  not_called (M.cell c) xs h = refl
  not_called M.empty xs h = refl
  not_called (M.cons ys r) xs h = refl
  not_called (M.chunk ys r) xs h = refl
  not_called (M.range from at end) xs h = refl
  not_called (M.vec_seq ys at) xs h = refl

  ruled_called : (t : Target) (bs : M.Values ℕ) (xs : List (M.Value ℕ)) → IsRuled t → called script (M.function t bs) xs ≡ script.rules.on_call t (M.list bs) xs
  ruled_called (T.Builtin w) bs xs h = refl
  ruled_called (T.User i) bs xs h = absurd (h i refl)
  ruled_called T.Partial bs xs h = refl
  ruled_called T.Comp bs xs h = refl
  ruled_called T.Complement bs xs h = refl
  ruled_called T.Constantly bs xs h = refl
  ruled_called T.Completing bs xs h = refl
  ruled_called T.Monoid bs xs h = refl
  ruled_called (T.Xf k) bs xs h = refl
  ruled_called (T.Folder k) bs xs h = refl

  own_called : (t : Target) (i : ℕ) (bs : M.Values ℕ) (xs : List (M.Value ℕ)) → t ≡ T.User i → called script (M.function t bs) xs ≡ with_body script (body_in (slice_get script.functions i) (length xs)) xs
  own_called t i bs xs e = ap (λ u. called script (M.function u bs) xs) e

module _ {S : Type 0} (by : Ground S) (f : FnValue) (args : List Value) (k : M.Value ℕ → Plan ℕ) where
  pub ruled_plan : IsRuled f.target → then (called (script_in by) (plain (V.Function f)) (plains args)) k ≡ then ((by.table by.code.processors).on_call f.target (plains f.bound) (plains args)) k
  ruled_plan h = ap (λ p. then p k) (ap (λ v. called (script_in by) v (plains args)) (plain_fn f) ∙ ruled_called (script_in by) f.target (M.values (plains f.bound)) (plains args) h ∙ ap (λ l. (by.table by.code.processors).on_call f.target l (plains args)) (list_values (plains f.bound)))

  own_body : (i count : ℕ) (o : Option ℕ) → f.target ≡ T.User i → count ≡ length args → option_map (at (trees by.code.program)) o ≡ body_of (seen by.code.program).functions i count → body_in (slice_get (seen by.code.program).functions i) (length (plains args)) ≡ option_map (at (trees by.code.program)) o
  own_body i count o t n e =
      ap (body_in (slice_get (seen by.code.program).functions i)) (length-map args plain ∙ sym n)
      ∙ bodies_same (slice_get (seen by.code.program).functions i) count
      ∙ sym e

  own_plan : (i : ℕ) → f.target ≡ T.User i → called (script_in by) (plain (V.Function f)) (plains args) ≡ with_body (script_in by) (body_in (slice_get (seen by.code.program).functions i) (length (plains args))) (plains args)
  own_plan i t = ap (λ v. called (script_in by) v (plains args)) (plain_fn f) ∙ own_called (script_in by) f.target i (M.values (plains f.bound)) (plains args) t

  -- no body takes so many arguments
  pub own_none : (i count : ℕ) (o : Option ℕ) → o ≡ None → f.target ≡ T.User i → count ≡ length args → option_map (at (trees by.code.program)) o ≡ body_of (seen by.code.program).functions i count → then (called (script_in by) (plain (V.Function f)) (plains args)) k ≡ throw Arity
  own_none i count o z t n e =
      ap (λ p. then p k) (own_plan i t ∙ ap (λ x. with_body (script_in by) x (plains args)) (own_body i count o t n e ∙ ap (option_map (at (trees by.code.program))) z))

  -- the body that takes so many
  pub own_some : (i count expr : ℕ) (o : Option ℕ) → o ≡ Some expr → f.target ≡ T.User i → count ≡ length args → option_map (at (trees by.code.program)) o ≡ body_of (seen by.code.program).functions i count → evaluated by.code expr (plains args) k ≡ then (called (script_in by) (plain (V.Function f)) (plains args)) k
  own_some i count expr o z t n e =
      sym (ap (λ p. then p k) (own_plan i t ∙ ap (λ x. with_body (script_in by) x (plains args)) (own_body i count o t n e ∙ ap (option_map (at (trees by.code.program))) z))
      ∙ body_gives (plains by.code.values.items) (tree by.code expr) (plains args) k)

  pub own_weight : (i count expr : ℕ) (o : Option ℕ) → o ≡ Some expr → f.target ≡ T.User i → count ≡ length args → option_map (at (trees by.code.program)) o ≡ body_of (seen by.code.program).functions i count → weight (tree by.code expr) ≤ heaviest (seen by.code.program)
  own_weight i count expr o z t n e =
      let h = in_functions (seen by.code.program).functions i (length (plains args)) (tree by.code expr) (own_body i count o t n e ∙ ap (option_map (at (trees by.code.program))) z) in
      let m = le-max_left (heaviest_function (seen by.code.program).functions) (Rattle.eval_frames.specs.Weights.heaviest_of (seen by.code.program).bodies) in
      omega (arith, h, m)

module _ {S : Type 0} {b : _} (by : Ground S) where
  pub enters_throws : (n w : ℕ) {p : Plan ℕ} {why : Thrown} {r : Entered S b} → r ≡ N.Throws why → p ≡ throw why → Enters by n p w r
  enters_throws n w {p} {why} {r} e h = subst (λ x. Enters by n p w x) (sym e) h

module _ {S : Type 0} (by : Ground S) where
  pub no_call : (v : M.Value ℕ) (xs : List (M.Value ℕ)) (k : M.Value ℕ → Plan ℕ) → is_function v ≡ false → then (called (script_in by) v xs) k ≡ throw BadType
  no_call v xs k h = ap (λ p. then p k) (not_called (script_in by) v xs h)

-- ## The own step of a call

module _ {S : Type 0} {b : _} (by : Ground S) (rest less : Rest S b) (pays : less.left ≡ rest.left - 1) (some : ¬ (rest.left ≡ 0)) (same : less.frames ≡ rest.frames) where
  pub less_left : less.left + 1 ≡ rest.left
  less_left = omega (arith, pays, some)

  pub less_beneath : beneath by less ≡ beneath by rest
  less_beneath = ap (λ fs. under by give fs.items) same

  pub less_weight : rest_weight by.code less + step_weight by.code ≡ rest_weight by.code rest
  less_weight =
      let p : sum_by (frame_weight by.code) less.frames.items ≡ sum_by (frame_weight by.code) rest.frames.items = ap (λ fs. sum_by (frame_weight by.code) fs.items) same in
      let q : less.left * step_weight by.code + step_weight by.code ≡ rest.left * step_weight by.code = suc_times less.left (step_weight by.code) ∙ ap (λ n. n * step_weight by.code) less_left in
      omega (arith, p, q)
    where
      suc_times : (n k : ℕ) → n * k + k ≡ (n + 1) * k
      suc_times n k = omega arith

  pub call_on : {f : M.Value ℕ} {xs : List (M.Value ℕ)} {r : Runner S b} → Stands by less.left (then (called (script_in by) f xs) (beneath by less)) (rest_weight by.code less + (heaviest (seen by.code.program) + 1)) r → Leads by rest.left (call f xs (beneath by rest)) (rest_weight by.code rest - 2) (E.Went r)
  call_on {f} {xs} {r} h = record {
    goes = further (script_in by) (call_moves (script_in by) rest.left less.left f xs (beneath by rest) less_left) (stands (script_in by) h.left (h.plan ∙ ap (then (called (script_in by) f xs)) less_beneath));
    took = let e = h.left in let l = less_left in omega (arith, e, l);
    light = let x = h.light in let w = less_weight in omega (arith, x, w);
  }

  pub call_throws : {f : M.Value ℕ} {xs : List (M.Value ℕ)} {why : Thrown} → then (called (script_in by) f xs) (beneath by less) ≡ throw why → Leads {b = b} by rest.left (call f xs (beneath by rest)) (rest_weight by.code rest - 2) (E.Throws why less.left)
  call_throws {f} {xs} {why} h = record {
    goes = further (script_in by) (call_moves (script_in by) rest.left less.left f xs (beneath by rest) less_left) (stands (script_in by) refl (sym h ∙ ap (then (called (script_in by) f xs)) less_beneath));
    took = tt;
    light = omega arith;
  }
