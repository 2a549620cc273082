-- The values that a script can write are well formed.
use Rattle.std.proofs.Common.{◌≡◌, Bool, true, false, refl, ap, ◌∙◌, ◌&&◌}
use Rattle.seq_values.specs.declared.value.Value.{Value, out-Value}
use Rattle.seq_values.specs.declared.value.Node.{Node, out-Node}
use Rattle.seq_values.specs.declared.value.FnValue.{FnValue}
use Rattle.seq_values.specs.declared.value.Node.TheOpen.{Value-F, Node-F}
use Rattle.seq_values.specs.declared.value.Node.TheFolds.{fold_out-Value, fold_out-Node}
use Rattle.seq_values.specs.Depth.{Grade, flat, node_grade, value_grade, function_grade, graded, graded_node}
use Rattle.seq_values.specs.WellFormed.{Seen, node_seen, value_seen, function_seen, seen, seen_node, is_well_formed}
use Rattle.clj_script.specs.Literals.{is_empty_level, is_written_level, is_written}

-- a value or node that stands and holds nothing
record IsFlat (s : Seen) (g : Grade) : Type 0 where
  stands : s.stands ≡ true
  depth : g ≡ flat

flat_node : (n : Node) (l : Node-F Node Value FnValue) → out-Node n ≡ l → is_empty_level l ≡ true → IsFlat (seen_node n) (graded_node n)
flat_node n Node-F.Empty e w = record {
  stands = ap (λ (s : Seen). s.stands) (rw e at (fold_out-Node Seen Seen Seen node_seen value_seen function_seen n));
  depth = rw e at (fold_out-Node Grade Grade Grade node_grade value_grade function_grade n);
}
flat_node n (Node-F.Cons kept heads rest) e w = absurd cc
flat_node n (Node-F.Chunk kept items rest) e w = absurd cc
flat_node n (Node-F.Range from at end) e w = absurd cc
flat_node n (Node-F.VecSeq kept items at) e w = absurd cc

flat_value : (v : Value) (l : Value-F Node Value FnValue) → out-Value v ≡ l → is_written_level l ≡ true → IsFlat (seen v) (graded v)
flat_value v Value-F.Nil e w = record {
  stands = ap (λ (s : Seen). s.stands) (rw e at (fold_out-Value Seen Seen Seen node_seen value_seen function_seen v));
  depth = rw e at (fold_out-Value Grade Grade Grade node_grade value_grade function_grade v);
}
flat_value v (Value-F.Bool b) e w = record {
  stands = ap (λ (s : Seen). s.stands) (rw e at (fold_out-Value Seen Seen Seen node_seen value_seen function_seen v));
  depth = rw e at (fold_out-Value Grade Grade Grade node_grade value_grade function_grade v);
}
flat_value v (Value-F.Int z) e w = record {
  stands = ap (λ (s : Seen). s.stands) (rw e at (fold_out-Value Seen Seen Seen node_seen value_seen function_seen v));
  depth = rw e at (fold_out-Value Grade Grade Grade node_grade value_grade function_grade v);
}
flat_value v (Value-F.Keyword name) e w = record {
  stands = ap (λ (s : Seen). s.stands) (rw e at (fold_out-Value Seen Seen Seen node_seen value_seen function_seen v));
  depth = rw e at (fold_out-Value Grade Grade Grade node_grade value_grade function_grade v);
}
flat_value v (Value-F.Text text) e w = record {
  stands = ap (λ (s : Seen). s.stands) (rw e at (fold_out-Value Seen Seen Seen node_seen value_seen function_seen v));
  depth = rw e at (fold_out-Value Grade Grade Grade node_grade value_grade function_grade v);
}
flat_value v (Value-F.Node n) e w =
    let f = flat_node n (out-Node n) refl w in
    record {
      stands = ap (λ (s : Seen). s.stands) (rw e at (fold_out-Value Seen Seen Seen node_seen value_seen function_seen v)) ∙ f.stands;
      depth = (rw e at (fold_out-Value Grade Grade Grade node_grade value_grade function_grade v)) ∙ f.depth;
    }
flat_value v (Value-F.Vector kept items) e w = absurd cc
flat_value v (Value-F.Function function) e w = absurd cc
flat_value v (Value-F.Reduced kept held) e w = absurd cc
flat_value v (Value-F.Cell id) e w = absurd cc

pub written_well : (v : Value) → is_written v ≡ true → is_well_formed v ≡ true
written_well v w = let f = flat_value v (out-Value v) refl w in rw (f.stands, f.depth) refl
