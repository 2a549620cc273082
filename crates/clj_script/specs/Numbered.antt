-- The expressions that bodies and forms name by their numbers.
use Rattle.std.specs.Prelude.{ℕ, List, [], ◌∷◌, map}
use Rattle.std.specs.Coded.{×_prop, Unit-prop}
use Rattle.clj_script.specs.declared.program.Body.{Body}
use Rattle.clj_script.specs.declared.program.Top.{Top}
use Rattle.clj_script.specs.declared.program.Top.TheVariants.{Def, Defn, Prn, Ledger}
use Rattle.clj_script.specs.Arena.{AllBelow, AllBelow-prop}

-- the expressions that bodies name
abbrev pub numbers_of_bodies : List Body → List ℕ
numbers_of_bodies bodies = map (λ b. b.expr) bodies

-- those of all functions are below a number
abbrev pub AreBodiesBelow : {F : Type 0} → ℕ → (F → List Body) → List F → Type 0
AreBodiesBelow bound bodies_of [] = Unit {0}
AreBodiesBelow bound bodies_of (f ∷ fs) = AllBelow bound (numbers_of_bodies (bodies_of f)) × AreBodiesBelow bound bodies_of fs

-- the expression that a form names
abbrev pub number_of_top : Top → List ℕ
number_of_top (Def name expr) = expr ∷ []
number_of_top Defn = []
number_of_top (Prn expr) = expr ∷ []
number_of_top Ledger = []

-- those of all forms are below a number
abbrev pub AreTopsBelow : ℕ → List Top → Type 0
AreTopsBelow bound [] = Unit {0}
AreTopsBelow bound (t ∷ ts) = AllBelow bound (number_of_top t) × AreTopsBelow bound ts

pub AreBodiesBelow-prop : {F : Type 0} (bound : ℕ) (bodies_of : F → List Body) (fs : List F) → IsProp (AreBodiesBelow bound bodies_of fs)
AreBodiesBelow-prop bound bodies_of [] = Unit-prop
AreBodiesBelow-prop bound bodies_of (f ∷ fs) = ×_prop (AllBelow-prop bound (numbers_of_bodies (bodies_of f))) (AreBodiesBelow-prop bound bodies_of fs)

pub AreTopsBelow-prop : (bound : ℕ) (ts : List Top) → IsProp (AreTopsBelow bound ts)
AreTopsBelow-prop bound [] = Unit-prop
AreTopsBelow-prop bound (t ∷ ts) = ×_prop (AllBelow-prop bound (number_of_top t)) (AreTopsBelow-prop bound ts)
