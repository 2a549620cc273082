-- Trees that are kept in a row, each made of some before it, which it names by their numbers.
use Rattle.std.specs.Prelude.{ℕ, ◌+◌, ◌<◌, List, [], ◌∷◌, ◌++◌, slice_get, unwrap_or}
use Rattle.std.specs.Coded.{×_prop, Unit-prop, le_prop}

-- the tree with a number
abbrev pub at : {T : Type 0} → T → List T → ℕ → T
at other trees n = unwrap_or (slice_get trees n) other

-- all numbers are below a bound
abbrev pub AllBelow : ℕ → List ℕ → Type 0
AllBelow bound [] = Unit {0}
AllBelow bound (n ∷ ns) = (n < bound) × AllBelow bound ns

-- the trees, where each element is made into one over those before it
abbrev pub trees_behind : {E T : Type 0} → (List T → E → T) → List T → List E → List T
trees_behind over trees [] = trees
trees_behind over trees (e ∷ es) = trees_behind over (trees ++ over trees e ∷ []) es

-- behind so many elements, each names only elements before it
abbrev pub LowerFrom : {E : Type 0} → (E → List ℕ) → ℕ → List E → Type 0
LowerFrom parts n [] = Unit {0}
LowerFrom parts n (e ∷ es) = AllBelow n (parts e) × LowerFrom parts (n + 1) es

pub AllBelow-prop : (bound : ℕ) (ns : List ℕ) → IsProp (AllBelow bound ns)
AllBelow-prop bound [] = Unit-prop
AllBelow-prop bound (n ∷ ns) = ×_prop le_prop (AllBelow-prop bound ns)

pub LowerFrom-prop : {E : Type 0} (parts : E → List ℕ) (n : ℕ) (es : List E) → IsProp (LowerFrom parts n es)
LowerFrom-prop parts n [] = Unit-prop
LowerFrom-prop parts n (e ∷ es) = ×_prop (AllBelow-prop n (parts e)) (LowerFrom-prop parts (n + 1) es)
