-- What is seen of a value of one layer, and how deep it is, by what it holds.
use Rattle.std.proofs.Common.{◌≡◌, sym, ap, ◌∙◌, ℕ, max, ℤ, List, map, ◌&&◌}
use Rattle.seq_values.specs.declared.value.Value.TheVariants as V
use Rattle.seq_values.specs.declared.value.Node.TheVariants as N
use Rattle.seq_values.specs.Layers.{fold-roll-Value, fold-roll-Node, fold_out-FnValue, Value, Node, FnValue, Value-F, Node-F}
use Rattle.seq_values.specs.Depth.{Grade, flat, holding, node_grade, value_grade, function_grade, graded, graded_node, graded_function, depth, keeps_depth, depth_of_all, keep_depth}
use Rattle.seq_values.specs.WellFormed.{Seen, node_seen, value_seen, function_seen, seen, seen_node, seen_function}

pub seen_vector : (items : List Value) (kept : ℕ) → seen (V.Vector kept items) ≡ value_seen (Value-F.Vector kept (map seen items))
seen_vector items kept = ap seen (sym (V.rolls-Vector kept items)) ∙ fold-roll-Value Seen Seen Seen node_seen value_seen function_seen (Value-F.Vector kept items)

pub graded_vector : (items : List Value) (kept : ℕ) → graded (V.Vector kept items) ≡ holding (depth_of_all items) (keep_depth items) kept
graded_vector items kept = ap graded (sym (V.rolls-Vector kept items)) ∙ fold-roll-Value Grade Grade Grade node_grade value_grade function_grade (Value-F.Vector kept items)

pub seen_reduced : (held : Value) (kept : ℕ) → seen (V.Reduced kept held) ≡ value_seen (Value-F.Reduced kept (seen held))
seen_reduced held kept = ap seen (sym (V.rolls-Reduced kept held)) ∙ fold-roll-Value Seen Seen Seen node_seen value_seen function_seen (Value-F.Reduced kept held)

pub graded_reduced : (held : Value) (kept : ℕ) → graded (V.Reduced kept held) ≡ holding (depth held) (keeps_depth held) kept
graded_reduced held kept = ap graded (sym (V.rolls-Reduced kept held)) ∙ fold-roll-Value Grade Grade Grade node_grade value_grade function_grade (Value-F.Reduced kept held)

pub seen_as_node : (n : Node) → seen (V.Node n) ≡ seen_node n
seen_as_node n = ap seen (sym (V.rolls-Node n)) ∙ fold-roll-Value Seen Seen Seen node_seen value_seen function_seen (Value-F.Node n)

pub graded_as_node : (n : Node) → graded (V.Node n) ≡ graded_node n
graded_as_node n = ap graded (sym (V.rolls-Node n)) ∙ fold-roll-Value Grade Grade Grade node_grade value_grade function_grade (Value-F.Node n)

pub seen_as_function : (f : FnValue) → seen (V.Function f) ≡ seen_function f
seen_as_function f = ap seen (sym (V.rolls-Function f)) ∙ fold-roll-Value Seen Seen Seen node_seen value_seen function_seen (Value-F.Function f)

pub graded_as_function : (f : FnValue) → graded (V.Function f) ≡ graded_function f
graded_as_function f = ap graded (sym (V.rolls-Function f)) ∙ fold-roll-Value Grade Grade Grade node_grade value_grade function_grade (Value-F.Function f)

pub seen_fn : (f : FnValue) → seen_function f ≡ function_seen (record { target = f.target; depth = f.depth; bound = map seen f.bound })
seen_fn f = fold_out-FnValue Seen Seen Seen node_seen value_seen function_seen f

pub graded_fn : (f : FnValue) → graded_function f ≡ holding (depth_of_all f.bound) (keep_depth f.bound) f.depth
graded_fn f = fold_out-FnValue Grade Grade Grade node_grade value_grade function_grade f

pub seen_cons : (heads : List Value) (rest : Value) (kept : ℕ) → seen_node (N.Cons kept heads rest) ≡ node_seen (Node-F.Cons kept (map seen heads) (seen rest))
seen_cons heads rest kept = ap seen_node (sym (N.rolls-Cons kept heads rest)) ∙ fold-roll-Node Seen Seen Seen node_seen value_seen function_seen (Node-F.Cons kept heads rest)

pub graded_cons : (heads : List Value) (rest : Value) (kept : ℕ) → graded_node (N.Cons kept heads rest) ≡ holding (max (depth_of_all heads) (depth rest)) (keep_depth heads && keeps_depth rest) kept
graded_cons heads rest kept = ap graded_node (sym (N.rolls-Cons kept heads rest)) ∙ fold-roll-Node Grade Grade Grade node_grade value_grade function_grade (Node-F.Cons kept heads rest)

pub seen_chunk : (items : List Value) (rest : Value) (kept : ℕ) → seen_node (N.Chunk kept items rest) ≡ node_seen (Node-F.Chunk kept (map seen items) (seen rest))
seen_chunk items rest kept = ap seen_node (sym (N.rolls-Chunk kept items rest)) ∙ fold-roll-Node Seen Seen Seen node_seen value_seen function_seen (Node-F.Chunk kept items rest)

pub graded_chunk : (items : List Value) (rest : Value) (kept : ℕ) → graded_node (N.Chunk kept items rest) ≡ holding (max (depth_of_all items) (depth rest)) (keep_depth items && keeps_depth rest) kept
graded_chunk items rest kept = ap graded_node (sym (N.rolls-Chunk kept items rest)) ∙ fold-roll-Node Grade Grade Grade node_grade value_grade function_grade (Node-F.Chunk kept items rest)

pub seen_vec_seq : (items : List Value) (at kept : ℕ) → seen_node (N.VecSeq kept items at) ≡ node_seen (Node-F.VecSeq kept (map seen items) at)
seen_vec_seq items at kept = ap seen_node (sym (N.rolls-VecSeq kept items at)) ∙ fold-roll-Node Seen Seen Seen node_seen value_seen function_seen (Node-F.VecSeq kept items at)

pub graded_vec_seq : (items : List Value) (at kept : ℕ) → graded_node (N.VecSeq kept items at) ≡ holding (depth_of_all items) (keep_depth items) kept
graded_vec_seq items at kept = ap graded_node (sym (N.rolls-VecSeq kept items at)) ∙ fold-roll-Node Grade Grade Grade node_grade value_grade function_grade (Node-F.VecSeq kept items at)

pub seen_range : (from at end : ℤ) → seen_node (N.Range from at end) ≡ node_seen (Node-F.Range from at end)
seen_range from at end = ap seen_node (sym (N.rolls-Range from at end)) ∙ fold-roll-Node Seen Seen Seen node_seen value_seen function_seen (Node-F.Range from at end)

pub graded_range : (from at end : ℤ) → graded_node (N.Range from at end) ≡ flat
graded_range from at end = ap graded_node (sym (N.rolls-Range from at end)) ∙ fold-roll-Node Grade Grade Grade node_grade value_grade function_grade (Node-F.Range from at end)
