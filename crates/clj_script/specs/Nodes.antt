-- The trees of numbered expressions, and the program that contracts see.
use Rattle.std.specs.Prelude.{ℕ, Bool, true, List, [], ◌∷◌, map, ◌&&◌}
use Rattle.clj_script.specs.declared.expr.Expr.{Expr}
use Rattle.clj_script.specs.declared.expr.Expr.TheVariants as node
use Rattle.clj_script.specs.Arena as arena
use Rattle.clj_script.specs.Literals.{literal_of, is_written}
use Rattle.clj_script.specs.Trees as tree

-- the tree with a number
abbrev pub at : List tree.Expr → ℕ → tree.Expr
at trees n = arena.at (tree.literal tree.nil_literal) trees n

abbrev pub all_at : List tree.Expr → List ℕ → tree.Exprs
all_at trees ns = tree.exprs (map (at trees) ns)

-- an expression over the trees so far
unfoldable pub tree_over : List tree.Expr → Expr → tree.Expr
tree_over trees (node.Literal value) = tree.literal (literal_of value)
tree_over trees (node.Word w) = tree.word w
tree_over trees (node.Function f) = tree.function_of f
tree_over trees (node.Defined form) = tree.defined form
tree_over trees (node.Local n) = tree.local n
tree_over trees (node.Vector items) = tree.vector_of (all_at trees items)
tree_over trees (node.Call head args) = tree.call_of (at trees head) (all_at trees args)
tree_over trees (node.Let value body) = tree.let_in (at trees value) (at trees body)
tree_over trees (node.If test a b) = tree.if_of (at trees test) (at trees a) (at trees b)
tree_over trees (node.And items) = tree.and_of (all_at trees items)
tree_over trees (node.Or items) = tree.or_of (all_at trees items)
tree_over trees (node.LazySeq body) = tree.lazy_seq body

-- the expressions of which one is made
abbrev pub parts_of : Expr → List ℕ
parts_of (node.Literal value) = []
parts_of (node.Word w) = []
parts_of (node.Function f) = []
parts_of (node.Defined form) = []
parts_of (node.Local n) = []
parts_of (node.Vector items) = items
parts_of (node.Call head args) = head ∷ args
parts_of (node.Let value body) = value ∷ body ∷ []
parts_of (node.If test a b) = test ∷ a ∷ b ∷ []
parts_of (node.And items) = items
parts_of (node.Or items) = items
parts_of (node.LazySeq body) = []

-- whether a literal is a value that a script can write
abbrev pub is_writable : Expr → Bool
is_writable (node.Literal value) = is_written value
is_writable _ = true

-- whether each literal is
abbrev pub are_writable : List Expr → Bool
are_writable [] = true
are_writable (e ∷ es) = is_writable e && are_writable es

-- the trees of all expressions
unfoldable pub trees_of : List Expr → List tree.Expr
trees_of nodes = arena.trees_behind tree_over [] nodes

-- each expression is made of some before it
unfoldable pub IsLower : List Expr → Type 0
IsLower nodes = arena.LowerFrom parts_of 0 nodes
