-- The defined names as they are kept, and what is answered of a name.
use Rattle.std.specs.Prelude.{◌≡◌, ℕ, List, map, Result, Ok, Err}
use Rattle.std.specs.declared.vec.Vec.{Vec}
use Rattle.std.specs.declared.alloc.Global.{Global}
use Rattle.clj_script.specs.declared.definitions.Meaning.{Meaning}
use Rattle.clj_script.specs.declared.expr.Expr.{Expr}
use Rattle.clj_script.specs.Trees as tree
use Rattle.clj_script.specs.Nodes.{tree_over}
use Rattle.clj_script.specs.Scopes.{Definitions}

-- the names of a map in order, each with what it stands for
abbrev pub defined : List (Vec ℕ Global × Meaning) → Definitions
defined entries = map (λ e. (e.0.items, e.1)) entries

-- an expression that needs no other is this one, or it is refused with this number
abbrev pub Stands : Result Expr ℕ → Result tree.Expr ℕ → Type 0
Stands (Ok e) wanted = (trees : List tree.Expr) → wanted ≡ Ok (tree_over trees e)
Stands (Err n) wanted = wanted ≡ Err n
