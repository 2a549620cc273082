-- What a walk meets at the values of the code.
use Rattle.std.proofs.Common.{◌≡◌, ℕ, ◌-◌, ℤ, Bool, List, length, refl, ap, sym, ◌∙◌, rules}
use Rattle.std.specs.Prelude.{unsigned_abs, ◌-ℤ◌, true, false}
use Rattle.seq_values.specs.Model as M
use Rattle.seq_values.specs.Layers.{fold_node}
use Rattle.seq_values.specs.Plain.{plain, plains, node_step, value_step, function_step}
use Rattle.seq_values.specs.declared.value.Value.{Value}
use Rattle.seq_values.specs.declared.value.Value.TheVariants as V
use Rattle.seq_values.specs.declared.value.Node.{Node, out-Node}
use Rattle.seq_values.specs.declared.value.Node.TheOpen.{Node-F}
use Rattle.seq_values.specs.declared.value.Node.TheVariants as N
use Rattle.seq_values.specs.declared.value.Node.TheFolds.{the_lemmas, fold_out-Node}
use Rattle.seq_values.specs.declared.value.FnValue.{FnValue}
use Rattle.seq_plan.proofs.CursorLemmas.{plain_cons, plain_chunk, plain_vec_seq, length_values}
use Rattle.seq_table.specs.Outputs.{is_listed}
use Rattle.seq_ledger.specs.Walks.{Next, last, more, part, nothing, next_of}

plain_vector : (kept : ℕ) (xs : List Value) → plain (V.Vector kept xs) ≡ M.vector (M.values (plains xs))
plain_vector kept xs = search (rules, the_lemmas)

plain_function : (f : FnValue) → plain (V.Function f) ≡ M.function f.target (M.values (plains f.bound))
plain_function f = search (rules, the_lemmas)

plain_reduced : (kept : ℕ) (held : Value) → plain (V.Reduced kept held) ≡ M.reduced (plain held)
plain_reduced kept held = search (rules, the_lemmas)

plain_range : (from at end : ℤ) → plain (V.Node (N.Range from at end)) ≡ M.range from at end
plain_range from at end = search (rules, the_lemmas)

plain_empty : plain (V.Node N.Empty) ≡ M.empty
plain_empty = search (rules, the_lemmas)

plain_nil : plain V.Nil ≡ M.nil
plain_nil = search (rules, the_lemmas)

plain_bool : (b : Bool) → plain (V.Bool b) ≡ M.bool b
plain_bool b = search (rules, the_lemmas)

plain_int : (n : ℤ) → plain (V.Int n) ≡ M.int n
plain_int n = search (rules, the_lemmas)

plain_keyword : (name : List ℕ) → plain (V.Keyword name) ≡ M.keyword name
plain_keyword name = search (rules, the_lemmas)

plain_text : (bytes : List ℕ) → plain (V.Text bytes) ≡ M.text bytes
plain_text bytes = search (rules, the_lemmas)

plain_cell : (id : ℕ) → plain (V.Cell id) ≡ M.cell id
plain_cell id = search (rules, the_lemmas)

-- ## What is met

pub meets_nil : last 0 ≡ next_of (plain V.Nil)
meets_nil = ap next_of (sym plain_nil)

pub meets_vector : (kept : ℕ) (xs : List Value) (n : ℕ) → n ≡ length xs → last n ≡ next_of (plain (V.Vector kept xs))
meets_vector kept xs n e = ap last (e ∙ sym (length_values xs)) ∙ ap next_of (sym (plain_vector kept xs))

pub meets_cell : (id : ℕ) → part id ≡ next_of (plain (V.Cell id))
meets_cell id = ap next_of (sym (plain_cell id))

pub meets_bool : (b : Bool) → nothing ≡ next_of (plain (V.Bool b))
meets_bool b = ap next_of (sym (plain_bool b))

pub meets_int : (n : ℤ) → nothing ≡ next_of (plain (V.Int n))
meets_int n = ap next_of (sym (plain_int n))

pub meets_keyword : (name : List ℕ) → nothing ≡ next_of (plain (V.Keyword name))
meets_keyword name = ap next_of (sym (plain_keyword name))

pub meets_text : (bytes : List ℕ) → nothing ≡ next_of (plain (V.Text bytes))
meets_text bytes = ap next_of (sym (plain_text bytes))

pub meets_function : (f : FnValue) → nothing ≡ next_of (plain (V.Function f))
meets_function f = ap next_of (sym (plain_function f))

pub meets_reduced : (kept : ℕ) (held : Value) → nothing ≡ next_of (plain (V.Reduced kept held))
meets_reduced kept held = ap next_of (sym (plain_reduced kept held))

pub meets_empty : last 0 ≡ next_of (plain (V.Node N.Empty))
meets_empty = ap next_of (sym plain_empty)

pub meets_cons : (kept : ℕ) (xs : List Value) (r : Value) → more (length xs) (plain r) ≡ next_of (plain (V.Node (N.Cons kept xs r)))
meets_cons kept xs r = ap (λ n. more n (plain r)) (sym (length_values xs)) ∙ ap next_of (sym (plain_cons kept xs r))

pub meets_chunk : (kept : ℕ) (xs : List Value) (r : Value) → more (length xs) (plain r) ≡ next_of (plain (V.Node (N.Chunk kept xs r)))
meets_chunk kept xs r = ap (λ n. more n (plain r)) (sym (length_values xs)) ∙ ap next_of (sym (plain_chunk kept xs r))

pub meets_range : (from at end : ℤ) → last (unsigned_abs (end -ℤ at)) ≡ next_of (plain (V.Node (N.Range from at end)))
meets_range from at end = ap next_of (sym (plain_range from at end))

pub meets_vec_seq : (kept : ℕ) (xs : List Value) (at n : ℕ) → n ≡ length xs - at → last n ≡ next_of (plain (V.Node (N.VecSeq kept xs at)))
meets_vec_seq kept xs at n e = ap last (e ∙ ap (λ k. k - at) (sym (length_values xs))) ∙ ap next_of (sym (plain_vec_seq kept xs at))

-- ## Which values have a line

abbrev plain_node : Node → M.Value ℕ
plain_node = fold_node (M.Value ℕ) node_step value_step function_step

listed_as : (v w : M.Value ℕ) → v ≡ w → true ≡ is_listed w → true ≡ is_listed v
listed_as v w e l = l ∙ ap is_listed (sym e)

node_at : (n : Node) (m : Node-F Node Value FnValue) → out-Node n ≡ m → true ≡ is_listed (plain_node n)
node_at n Node-F.Empty e = listed_as _ M.empty (rw e at (fold_out-Node (M.Value ℕ) (M.Value ℕ) (M.Value ℕ) node_step value_step function_step n)) refl
node_at n (Node-F.Cons kept heads rest) e = listed_as _ (M.cons (M.values (plains heads)) (plain rest)) (rw e at (fold_out-Node (M.Value ℕ) (M.Value ℕ) (M.Value ℕ) node_step value_step function_step n)) refl
node_at n (Node-F.Chunk kept items rest) e = listed_as _ (M.chunk (M.values (plains items)) (plain rest)) (rw e at (fold_out-Node (M.Value ℕ) (M.Value ℕ) (M.Value ℕ) node_step value_step function_step n)) refl
node_at n (Node-F.Range from at end) e = listed_as _ (M.range from at end) (rw e at (fold_out-Node (M.Value ℕ) (M.Value ℕ) (M.Value ℕ) node_step value_step function_step n)) refl
node_at n (Node-F.VecSeq kept items at) e = listed_as _ (M.vec_seq (M.values (plains items)) at) (rw e at (fold_out-Node (M.Value ℕ) (M.Value ℕ) (M.Value ℕ) node_step value_step function_step n)) refl

pub lists_node : (n : Node) → true ≡ is_listed (plain (V.Node n))
lists_node n =
    let e : plain (V.Node n) ≡ plain_node n = search (rules, the_lemmas) in
    listed_as _ (plain_node n) e (node_at n (out-Node n) refl)

pub lists_cell : (id : ℕ) → true ≡ is_listed (plain (V.Cell id))
lists_cell id = ap is_listed (sym (plain_cell id))

pub lists_no_vector : (kept : ℕ) (xs : List Value) → false ≡ is_listed (plain (V.Vector kept xs))
lists_no_vector kept xs = ap is_listed (sym (plain_vector kept xs))

pub lists_no_function : (f : FnValue) → false ≡ is_listed (plain (V.Function f))
lists_no_function f = ap is_listed (sym (plain_function f))

pub lists_no_reduced : (kept : ℕ) (held : Value) → false ≡ is_listed (plain (V.Reduced kept held))
lists_no_reduced kept held = ap is_listed (sym (plain_reduced kept held))

pub lists_no_nil : false ≡ is_listed (plain V.Nil)
lists_no_nil = ap is_listed (sym plain_nil)

pub lists_no_bool : (b : Bool) → false ≡ is_listed (plain (V.Bool b))
lists_no_bool b = ap is_listed (sym (plain_bool b))

pub lists_no_int : (n : ℤ) → false ≡ is_listed (plain (V.Int n))
lists_no_int n = ap is_listed (sym (plain_int n))

pub lists_no_keyword : (name : List ℕ) → false ≡ is_listed (plain (V.Keyword name))
lists_no_keyword name = ap is_listed (sym (plain_keyword name))

pub lists_no_text : (bytes : List ℕ) → false ≡ is_listed (plain (V.Text bytes))
lists_no_text bytes = ap is_listed (sym (plain_text bytes))
