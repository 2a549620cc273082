-- How the locals in scope are kept.
use Rattle.std.specs.Prelude.{◌≡◌, ℕ, List, [], ◌∷◌, ◌++◌, map, Option}
use Rattle.std.specs.Str.{bytes_eq}
use Rattle.std.specs.HashMap.{HashMap, get_by}
use Rattle.std.specs.declared.vec.Vec.{Vec}
use Rattle.std.specs.declared.alloc.Global.{Global}
use Rattle.clj_script.specs.declared.locals.Local.{Local}
use Rattle.clj_script.specs.Scopes.{innermost}

abbrev pub all_but_last : {X : Type 0} → List X → List X
all_but_last [] = []
all_but_last (x ∷ []) = []
all_but_last (x ∷ y ∷ ys) = x ∷ all_but_last (y ∷ ys)

-- the names of locals in order
abbrev pub names : List Local → List (List ℕ)
names locals = map (λ l. l.name.items) locals

-- what a map of names has for a name
abbrev pub held : {X S : Type 0} → HashMap (Vec ℕ Global) X S → List ℕ → Option X
held m name = get_by (λ k. bytes_eq name k.items) m

-- behind locals with these names, each local knows the innermost outside it with its name
abbrev pub IsShadowing : List (List ℕ) → List Local → Type 0
IsShadowing before [] = Unit {0}
IsShadowing before (l ∷ ls) = (l.shadowed ≡ innermost before l.name.items) × IsShadowing (before ++ l.name.items ∷ []) ls

-- the map has the innermost local of each name
pub record IsKept {S : Type 0} (locals : List Local) (innermost_of : HashMap (Vec ℕ Global) ℕ S) : Type 0 where
  pub found : (name : List ℕ) → held innermost_of name ≡ innermost (names locals) name
  pub shadowing : IsShadowing [] locals
