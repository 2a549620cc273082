-- What the values of the code stand for in the meaning, with numbers for cells.
use Rattle.std.specs.Prelude.{ℕ, List, map}
use Rattle.seq_values.specs.Model as M
use Rattle.seq_values.specs.declared.term.Term.{Term}
use Rattle.seq_values.specs.Layers.{Value, NodeLayer, ValueLayer, FunctionLayer, Node-F, Value-F, fold_value}

-- One level of a value, with what it holds already seen. The depths that are kept stand for nothing.
abbrev pub node_step : NodeLayer (M.Value ℕ) → M.Value ℕ
node_step Node-F.Empty = M.empty
node_step (Node-F.Cons kept heads rest) = M.cons (M.values heads) rest
node_step (Node-F.Chunk kept items rest) = M.chunk (M.values items) rest
node_step (Node-F.Range from at end) = M.range from at end
node_step (Node-F.VecSeq kept items at) = M.vec_seq (M.values items) at

abbrev pub value_step : ValueLayer (M.Value ℕ) → M.Value ℕ
value_step Value-F.Nil = M.nil
value_step (Value-F.Bool truth) = M.bool truth
value_step (Value-F.Int number) = M.int number
value_step (Value-F.Keyword name) = M.keyword name
value_step (Value-F.Text bytes) = M.text bytes
value_step (Value-F.Vector kept items) = M.vector (M.values items)
value_step (Value-F.Function f) = f
value_step (Value-F.Node n) = n
value_step (Value-F.Reduced kept v) = M.reduced v
value_step (Value-F.Cell id) = M.cell id

abbrev pub function_step : FunctionLayer (M.Value ℕ) → M.Value ℕ
function_step f = M.function f.target (M.values f.bound)

abbrev pub plain : Value → M.Value ℕ
plain = fold_value (M.Value ℕ) node_step value_step function_step

abbrev pub plains : List Value → List (M.Value ℕ)
plains xs = map plain xs

abbrev pub plain_term : Term → M.Term ℕ
plain_term t = record { op = t.op; args = plains t.args }
