-- What an expression is, by its number.
use Rattle.std.proofs.Common.{◌≡◌, ℕ, zero, suc, ◌+◌, List, [], ◌∷◌, map, Option, Some, None, refl, sym, ap, ◌∙◌, true, arith}
use Rattle.std.specs.Prelude.{slice_get, unwrap_or}
use Rattle.seq_values.specs.declared.value.Value.{Value, out-Value}
use Rattle.seq_values.specs.declared.value.Node.{Node, out-Node}
use Rattle.seq_values.specs.declared.value.FnValue.{FnValue}
use Rattle.seq_values.specs.declared.value.Node.TheOpen.{Value-F, Node-F}
use Rattle.seq_values.specs.declared.value.Node.TheFolds.{fold_out-Value, fold_out-Node}
use Rattle.seq_values.specs.Model as M
use Rattle.seq_values.specs.Plain.{node_step, value_step, function_step, plain}
use Rattle.seq_plan.specs.Plan.{Plan}
use Rattle.clj_script.specs.Literals.{literal_of, literal_of_level, is_empty_level, is_written_level, is_written}
use Rattle.clj_script.specs.Nodes.{at, tree_over, is_writable}
use Rattle.clj_script.specs.Seen.{trees}
use Rattle.clj_script.specs.Trees.{Expr, literal, nil_literal, defined, local, vector_of, call_of, let_in, if_of, and_of, or_of, lazy_seq, no_exprs, more_exprs, exprs}
use Rattle.clj_script.specs.declared.expr.Expr.{Expr as NodeExpr}
use Rattle.clj_script.specs.declared.expr.Expr.TheVariants as node
use Rattle.seq_values.specs.declared.words.Builtin.{Builtin}
use Rattle.seq_values.specs.declared.words.Target.TheVariants as T
use Rattle.seq_meaning.specs.Evaluates.{value_of, eval}
use Rattle.eval_frames.specs.Parts.{tree, parts_in, from_place, Begins, begins_none, begins_with}
use Rattle.eval_frames.specs.declared.state.Code.{Code}

-- ## Literals

plain_node : (n : Node) (l : Node-F Node Value FnValue) → out-Node n ≡ l → is_empty_level l ≡ true → Rattle.seq_values.specs.Layers.fold_node (M.Value ℕ) node_step value_step function_step n ≡ M.empty
plain_node n Node-F.Empty e w = rw e at (fold_out-Node (M.Value ℕ) (M.Value ℕ) (M.Value ℕ) node_step value_step function_step n)
plain_node n (Node-F.Cons kept heads rest) e w = absurd cc
plain_node n (Node-F.Chunk kept items rest) e w = absurd cc
plain_node n (Node-F.Range from at end) e w = absurd cc
plain_node n (Node-F.VecSeq kept items at) e w = absurd cc

plain_level : (v : Value) (l : Value-F Node Value FnValue) → out-Value v ≡ l → is_written_level l ≡ true → plain v ≡ value_of (literal_of_level l)
plain_level v Value-F.Nil e w = rw e at (fold_out-Value (M.Value ℕ) (M.Value ℕ) (M.Value ℕ) node_step value_step function_step v)
plain_level v (Value-F.Bool b) e w = rw e at (fold_out-Value (M.Value ℕ) (M.Value ℕ) (M.Value ℕ) node_step value_step function_step v)
plain_level v (Value-F.Int z) e w = rw e at (fold_out-Value (M.Value ℕ) (M.Value ℕ) (M.Value ℕ) node_step value_step function_step v)
plain_level v (Value-F.Keyword name) e w = rw e at (fold_out-Value (M.Value ℕ) (M.Value ℕ) (M.Value ℕ) node_step value_step function_step v)
plain_level v (Value-F.Text text) e w = rw e at (fold_out-Value (M.Value ℕ) (M.Value ℕ) (M.Value ℕ) node_step value_step function_step v)
plain_level v (Value-F.Node n) e w = (rw e at (fold_out-Value (M.Value ℕ) (M.Value ℕ) (M.Value ℕ) node_step value_step function_step v)) ∙ plain_node n (out-Node n) refl w
plain_level v (Value-F.Vector kept items) e w = absurd cc
plain_level v (Value-F.Function function) e w = absurd cc
plain_level v (Value-F.Reduced kept held) e w = absurd cc
plain_level v (Value-F.Cell id) e w = absurd cc

-- what a script writes is the value that it stands for
pub plain_literal : (v : Value) → is_written v ≡ true → plain v ≡ value_of (literal_of v)
plain_literal v w = plain_level v (out-Value v) refl w

-- ## Parts

-- the parts of a vector, an `and` or an `or`, or the arguments of a call
abbrev pub node_parts : NodeExpr → List ℕ
node_parts (node.Literal value) = []
node_parts (node.Word w) = []
node_parts (node.Function f) = []
node_parts (node.Defined form) = []
node_parts (node.Local n) = []
node_parts (node.Vector items) = items
node_parts (node.Call head args) = args
node_parts (node.Let value body) = []
node_parts (node.If test a b) = []
node_parts (node.And items) = items
node_parts (node.Or items) = items
node_parts (node.LazySeq body) = []

parts_over : (ts : List Expr) (e : NodeExpr) → parts_in (tree_over ts e) ≡ exprs (map (at ts) (node_parts e))
unfolding tree_over
parts_over ts (node.Literal value) = refl
parts_over ts (node.Word w) = refl
parts_over ts (node.Function f) = refl
parts_over ts (node.Defined form) = refl
parts_over ts (node.Local n) = refl
parts_over ts (node.Vector items) = refl
parts_over ts (node.Call head args) = refl
parts_over ts (node.Let value body) = refl
parts_over ts (node.If test a b) = refl
parts_over ts (node.And items) = refl
parts_over ts (node.Or items) = refl
parts_over ts (node.LazySeq body) = refl

module _ (code : Code) where
  -- the expression that has a number
  pub tree_is : (n : ℕ) (t : Expr) → slice_get (trees code.program) n ≡ Some t → tree code n ≡ t
  tree_is n t e = ap (λ o. unwrap_or o (literal nil_literal)) e

  pub tree_none : (n : ℕ) → slice_get (trees code.program) n ≡ None → tree code n ≡ literal nil_literal
  tree_none n e = ap (λ o. unwrap_or o (literal nil_literal)) e

  some_at : (ns : List ℕ) (at n : ℕ) → slice_get ns at ≡ Some n → from_place at (exprs (map (tree code) ns)) ≡ more_exprs (tree code n) (from_place (suc at) (exprs (map (tree code) ns)))
  some_at [] at n e = absurd cc
  some_at (m ∷ ns) zero n e = let p : m ≡ n = cc in ap (λ k. more_exprs (tree code k) (exprs (map (tree code) ns))) p
  some_at (m ∷ ns) (suc at) n e = some_at ns at n e

  none_at : (ns : List ℕ) (at : ℕ) → slice_get ns at ≡ None → from_place at (exprs (map (tree code) ns)) ≡ no_exprs
  none_at [] zero e = refl
  none_at [] (suc at) e = refl
  none_at (m ∷ ns) zero e = absurd cc
  none_at (m ∷ ns) (suc at) e = none_at ns at e

  begins_in : (ns : List ℕ) (at : ℕ) (o : Option ℕ) → slice_get ns at ≡ o → Begins code (from_place at (exprs (map (tree code) ns))) (from_place (suc at) (exprs (map (tree code) ns))) o
  begins_in ns at None e = begins_none (none_at ns at e)
  begins_in ns at (Some n) e = begins_with (some_at ns at n e)

  begins_at : (t : Expr) (ns : List ℕ) (at : ℕ) (o : Option ℕ) → parts_in t ≡ exprs (map (tree code) ns) → o ≡ slice_get ns at → Begins code (from_place at (parts_in t)) (from_place (at + 1) (parts_in t)) o
  begins_at t ns at o p e = let q : at + 1 ≡ suc at = omega arith in rw (p, q) (begins_in ns at o (sym e))

  -- the part of an expression at a place
  pub part_of : (n at : ℕ) (e : NodeExpr) (o : Option ℕ) → slice_get (trees code.program) n ≡ Some (tree_over (trees code.program) e) → o ≡ slice_get (node_parts e) at → Begins code (from_place at (parts_in (tree code n))) (from_place (at + 1) (parts_in (tree code n))) o
  part_of n at e o s p = begins_at (tree code n) (node_parts e) at o (ap parts_in (tree_is n (tree_over (trees code.program) e) s) ∙ parts_over (trees code.program) e) p

  pub part_not : (n at : ℕ) (e f : NodeExpr) → slice_get (trees code.program) n ≡ Some (tree_over (trees code.program) e) → e ≡ f → node_parts f ≡ [] → Begins code (from_place at (parts_in (tree code n))) (from_place (at + 1) (parts_in (tree code n))) None
  part_not n at e f s q p = part_of n at e None s (sym (ap (λ x. slice_get (node_parts x) at) q ∙ ap (λ ns. slice_get ns at) p))

  -- what no expression is has no part
  pub part_none : (n at : ℕ) → slice_get (trees code.program) n ≡ None → Begins code (from_place at (parts_in (tree code n))) (from_place (at + 1) (parts_in (tree code n))) None
  part_none n at s = begins_at (tree code n) [] at None (ap parts_in (tree_none n s)) refl

  -- ## Shapes

  -- a number that no expression has stands for nil
  pub shape_none : (n : ℕ) (v : Value) → slice_get (trees code.program) n ≡ None → plain v ≡ M.nil → (defs env : List (M.Value ℕ)) (k : M.Value ℕ → Plan ℕ) → eval defs (tree code n) env k ≡ k (plain v)
  shape_none n v s p defs env k = ap (λ t. eval defs t env k) (tree_none n s) ∙ ap k (sym p)

  module _ (n : ℕ) (e : NodeExpr) (s : slice_get (trees code.program) n ≡ Some (tree_over (trees code.program) e)) where
    is_over : (f : NodeExpr) → e ≡ f → tree code n ≡ tree_over (trees code.program) f
    is_over f q = tree_is n (tree_over (trees code.program) e) s ∙ ap (tree_over (trees code.program)) q

    pub shape_literal : (u v : Value) → e ≡ node.Literal u → is_writable e ≡ true → v ≡ u → (defs env : List (M.Value ℕ)) (k : M.Value ℕ → Plan ℕ) → eval defs (tree code n) env k ≡ k (plain v)
    unfolding tree_over
    shape_literal u v q w i defs env k = ap (λ t. eval defs t env k) (is_over (node.Literal u) q) ∙ ap k (sym (ap plain i ∙ plain_literal u (sym (ap is_writable q) ∙ w)))

    pub shape_word : (w : Builtin) (v : Value) → e ≡ node.Word w → plain v ≡ M.function (T.Builtin w) M.no_values → (defs env : List (M.Value ℕ)) (k : M.Value ℕ → Plan ℕ) → eval defs (tree code n) env k ≡ k (plain v)
    unfolding tree_over
    shape_word w v q p defs env k = ap (λ t. eval defs t env k) (is_over (node.Word w) q) ∙ ap k (sym p)

    pub shape_function : (f : ℕ) (v : Value) → e ≡ node.Function f → plain v ≡ M.function (T.User f) M.no_values → (defs env : List (M.Value ℕ)) (k : M.Value ℕ → Plan ℕ) → eval defs (tree code n) env k ≡ k (plain v)
    unfolding tree_over
    shape_function f v q p defs env k = ap (λ t. eval defs t env k) (is_over (node.Function f) q) ∙ ap k (sym p)

    pub shape_defined : (form : ℕ) → e ≡ node.Defined form → tree code n ≡ defined form
    unfolding tree_over
    shape_defined form q = is_over (node.Defined form) q

    pub shape_local : (i : ℕ) → e ≡ node.Local i → tree code n ≡ local i
    unfolding tree_over
    shape_local i q = is_over (node.Local i) q

    pub shape_vector : (ns : List ℕ) → e ≡ node.Vector ns → tree code n ≡ vector_of (parts_in (tree code n))
    unfolding tree_over
    shape_vector ns q = let p = is_over (node.Vector ns) q in p ∙ ap vector_of (sym (ap parts_in p))

    pub shape_call : (h : ℕ) (ns : List ℕ) → e ≡ node.Call h ns → tree code n ≡ call_of (tree code h) (parts_in (tree code n))
    unfolding tree_over
    shape_call h ns q = let p = is_over (node.Call h ns) q in p ∙ ap (call_of (tree code h)) (sym (ap parts_in p))

    pub shape_let : (v b : ℕ) → e ≡ node.Let v b → tree code n ≡ let_in (tree code v) (tree code b)
    unfolding tree_over
    shape_let v b q = is_over (node.Let v b) q

    pub shape_if : (t a z : ℕ) → e ≡ node.If t a z → tree code n ≡ if_of (tree code t) (tree code a) (tree code z)
    unfolding tree_over
    shape_if t a z q = is_over (node.If t a z) q

    pub shape_and : (ns : List ℕ) → e ≡ node.And ns → tree code n ≡ and_of (parts_in (tree code n))
    unfolding tree_over
    shape_and ns q = let p = is_over (node.And ns) q in p ∙ ap and_of (sym (ap parts_in p))

    pub shape_or : (ns : List ℕ) → e ≡ node.Or ns → tree code n ≡ or_of (parts_in (tree code n))
    unfolding tree_over
    shape_or ns q = let p = is_over (node.Or ns) q in p ∙ ap or_of (sym (ap parts_in p))

    pub shape_lazy : (b : ℕ) → e ≡ node.LazySeq b → tree code n ≡ lazy_seq b
    unfolding tree_over
    shape_lazy b q = is_over (node.LazySeq b) q
