-- Values, nodes and functions as data: one layer of each, and the folds over the whole. A type that joins them changes the names of what is generated, and so this file alone.
pub use Rattle.seq_values.specs.declared.value.Value.{Value, out-Value}
pub use Rattle.seq_values.specs.declared.value.Node.{Node, out-Node}
pub use Rattle.seq_values.specs.declared.value.FnValue.{FnValue}
pub use Rattle.seq_values.specs.declared.value.Node.TheOpen.{Value-F, Node-F, FnValue-F}
pub use Rattle.seq_values.specs.declared.value.Node.TheFolds.{fold-Value, fold-Node, fold-FnValue, fold-roll-Value, fold-roll-Node, fold_out-FnValue}

-- one layer, with an `A` in place of each value, node and function that it holds
abbrev pub ValueLayer : Type 0 → Type 0
ValueLayer A = Value-F A A A

abbrev pub NodeLayer : Type 0 → Type 0
NodeLayer A = Node-F A A A

abbrev pub FunctionLayer : Type 0 → Type 0
FunctionLayer A = FnValue-F A A A

-- what the whole gives, by one step for each layer
abbrev pub fold_value : (A : Type 0) → (NodeLayer A → A) → (ValueLayer A → A) → (FunctionLayer A → A) → Value → A
fold_value A node value function = fold-Value A A A node value function

abbrev pub fold_node : (A : Type 0) → (NodeLayer A → A) → (ValueLayer A → A) → (FunctionLayer A → A) → Node → A
fold_node A node value function = fold-Node A A A node value function

abbrev pub fold_function : (A : Type 0) → (NodeLayer A → A) → (ValueLayer A → A) → (FunctionLayer A → A) → FnValue → A
fold_function A node value function = fold-FnValue A A A node value function
