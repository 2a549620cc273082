-- How deep a value is, and whether each number that it keeps is the depth of what keeps it. Atoms, `()`, cells and ranges have depth 0. What holds values is one deeper than the deepest of them; a vector without items and a function with nothing bound have depth 1. A sequence over a vector is as deep as the vector.
use Rattle.std.specs.Prelude.{ℕ, ◌+◌, max, Bool, true, ◌&&◌, nat_eq, List, [], ◌∷◌, map}
use Rattle.seq_values.specs.Layers.{Value, Node, FnValue, ValueLayer, NodeLayer, FunctionLayer, Value-F, Node-F, fold_value, fold_node, fold_function}

pub record Grade : Type 0 where
  pub depth : ℕ
  -- each number kept in it is right
  pub right : Bool

-- the depth of the deepest, and 0 where there is none
abbrev pub deepest : List Grade → ℕ
deepest [] = 0
deepest (g ∷ gs) = max g.depth (deepest gs)

abbrev pub all_right : List Grade → Bool
all_right [] = true
all_right (g ∷ gs) = g.right && all_right gs

-- what holds nothing, and keeps no number
abbrev pub flat : Grade
flat = record { depth = 0; right = true }

-- what holds others, given how deep the deepest of them is, whether they are right, and the number that it keeps itself
abbrev pub holding : ℕ → Bool → ℕ → Grade
holding inside right kept = record { depth = inside + 1; right = right && nat_eq kept (inside + 1) }

abbrev pub node_grade : NodeLayer Grade → Grade
node_grade Node-F.Empty = flat
node_grade (Node-F.Cons kept heads rest) = holding (max (deepest heads) rest.depth) (all_right heads && rest.right) kept
node_grade (Node-F.Chunk kept items rest) = holding (max (deepest items) rest.depth) (all_right items && rest.right) kept
node_grade (Node-F.Range from at end) = flat
node_grade (Node-F.VecSeq kept items at) = holding (deepest items) (all_right items) kept

abbrev pub value_grade : ValueLayer Grade → Grade
value_grade (Value-F.Vector kept items) = holding (deepest items) (all_right items) kept
value_grade (Value-F.Function function) = function
value_grade (Value-F.Node node) = node
value_grade (Value-F.Reduced kept value) = holding value.depth value.right kept
value_grade _ = flat

abbrev pub function_grade : FunctionLayer Grade → Grade
function_grade f = holding (deepest f.bound) (all_right f.bound) f.depth

abbrev pub graded : Value → Grade
graded = fold_value Grade node_grade value_grade function_grade

abbrev pub graded_node : Node → Grade
graded_node = fold_node Grade node_grade value_grade function_grade

abbrev pub graded_function : FnValue → Grade
graded_function = fold_function Grade node_grade value_grade function_grade

abbrev pub depth : Value → ℕ
depth v = (graded v).depth

abbrev pub depth_of_node : Node → ℕ
depth_of_node n = (graded_node n).depth

abbrev pub depth_of_function : FnValue → ℕ
depth_of_function f = (graded_function f).depth

-- the depth of the deepest, and 0 where there is none
abbrev pub depth_of_all : List Value → ℕ
depth_of_all values = deepest (map graded values)

-- Each number that is kept in it is the depth of what keeps it.
abbrev pub keeps_depth : Value → Bool
keeps_depth v = (graded v).right

abbrev pub node_keeps_depth : Node → Bool
node_keeps_depth n = (graded_node n).right

abbrev pub function_keeps_depth : FnValue → Bool
function_keeps_depth f = (graded_function f).right

abbrev pub keep_depth : List Value → Bool
keep_depth values = all_right (map graded values)
