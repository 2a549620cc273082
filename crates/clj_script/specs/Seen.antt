-- The program that contracts see of a `Program`, and the answers of the compiler.
use Rattle.std.specs.Prelude.{◌≡◌, ℕ, zero, suc, ◌==◌, List, [], ◌∷◌, map, Option, Some, None, Result, Ok, Err, slice_get, if◌then◌else◌}
use Rattle.clj_reader.specs.declared.form.Form.{Form}
use Rattle.clj_script.specs.declared.refusal.ScriptRefusal.{ScriptRefusal}
use Rattle.clj_script.specs.declared.refusal.CompileStop.{CompileStop}
use Rattle.clj_script.specs.declared.refusal.CompileStop.TheVariants.{Refused, Memory}
use Rattle.clj_script.specs.declared.program.Body.{Body}
use Rattle.clj_script.specs.declared.program.Top.{Top}
use Rattle.clj_script.specs.declared.program.Top.TheVariants.{Def, Defn, Prn, Ledger}
use Rattle.clj_script.specs.declared.program.Parts.{Parts}
use Rattle.clj_script.specs.declared.program.Program.{Program}
use Rattle.clj_script.specs.Trees as tree
use Rattle.clj_script.specs.Nodes.{at, trees_of}
use Rattle.clj_script.specs.Refusals.{IsLeast}
use Rattle.clj_script.specs.Scripts.{Means}

-- a form at the top, over the trees of the expressions
abbrev pub top_over : List tree.Expr → Top → tree.Top
top_over trees (Def name expr) = tree.def name (at trees expr)
top_over trees Defn = tree.defn
top_over trees (Prn expr) = tree.prn (at trees expr)
top_over trees Ledger = tree.ledger

abbrev pub body_over : List tree.Expr → Body → ℕ × tree.Expr
body_over trees body = (body.parameters, at trees body.expr)

unfoldable pub seen_parts : Parts → tree.Program
seen_parts parts =
    let trees = trees_of parts.nodes.items in
    record {
      functions = map (λ bodies. map (body_over trees) bodies.items) parts.functions.items;
      bodies = map (at trees) parts.bodies.items;
      names = map (λ entry. entry.0.items) parts.definitions.entries;
      tops = map (top_over trees) parts.tops.items;
    }

abbrev pub seen : Program → tree.Program
seen program = seen_parts program.parts

-- the trees of the expressions of a program, by their numbers
abbrev pub trees : Program → List tree.Expr
trees program = trees_of program.parts.nodes.items

-- the item with a number from 1
abbrev pub numbered : {X : Type 0} → List X → ℕ → Option X
numbered xs zero = None
numbered xs (suc n) = slice_get xs n

-- the body for that number of arguments, the first where there are several
abbrev pub body_among : List (ℕ × tree.Expr) → ℕ → Option tree.Expr
body_among [] count = None
body_among (b ∷ bs) count = if b.0 == count then Some b.1 else body_among bs count

abbrev pub body_in : Option (List (ℕ × tree.Expr)) → ℕ → Option tree.Expr
body_in None count = None
body_in (Some bodies) count = body_among bodies count

-- a function's body for that number of arguments
abbrev pub body_of : List (List (ℕ × tree.Expr)) → ℕ → ℕ → Option tree.Expr
body_of functions function count = body_in (slice_get functions function) count

-- what is least of all that is refused of forms
pub record IsRefusal (forms : List Form) (r : ScriptRefusal) : Type 0 where
  pub program : tree.Program
  pub refusals : List ScriptRefusal
  pub means : Means forms program refusals
  pub least : IsLeast r refusals

-- A call gave what was to be given, or ran out of memory.
abbrev pub Gives : Result Program CompileStop → Result tree.Program ScriptRefusal → Type 0
Gives (Ok program) wanted = wanted ≡ Ok (seen program)
Gives (Err Memory) wanted = Unit {0}
Gives (Err (Refused r)) wanted = wanted ≡ Err r
