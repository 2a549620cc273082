-- The defined names as they are kept.
use Rattle.std.proofs.Common.{◌≡◌, ℕ, Bool, true, false, List, [], ◌∷◌, ◌++◌, Some, None, refl, ap}
use Rattle.std.specs.Str.{bytes_eq}
use Rattle.std.specs.Map.{lookup}
use Rattle.indexmap.specs.IndexMap.{insert_entry}
use Rattle.std.specs.declared.vec.Vec.{Vec}
use Rattle.std.specs.declared.alloc.Global.{Global}
use Rattle.clj_script.specs.declared.definitions.Meaning.{Meaning}
use Rattle.clj_script.specs.Words.{spelled}
use Rattle.clj_script.specs.Names.{defined}
use Rattle.clj_script.proofs.LocalLemmas.{turned}

pub defined_lookup : (es : List (Vec ℕ Global × Meaning)) (name : List ℕ) → lookup (λ (k : Vec ℕ Global). bytes_eq name k.items) es ≡ spelled (defined es) name
defined_lookup [] name = refl
defined_lookup (e ∷ es) name =
    let h : lookup (λ (k : Vec ℕ Global). bytes_eq name k.items) es ≡ spelled (defined es) name = defined_lookup es name in
    let k : bytes_eq name e.0.items ≡ bytes_eq e.0.items name = turned name e.0.items in
    rw (k, h) refl

some_none : {X : Type 0} {x : X} → Some x ≡ None → ⊥
some_none e = (cc)

behind_first : (x : Vec ℕ Global × Meaning) (es : List (Vec ℕ Global × Meaning)) (k : Vec ℕ Global) (m : Meaning) (b : Bool) → bytes_eq x.0.items k.items ≡ b → spelled (defined (x ∷ es)) k.items ≡ None → (spelled (defined es) k.items ≡ None → defined (insert_entry (λ (x y : Vec ℕ Global). bytes_eq x.items y.items) es k m) ≡ defined es ++ (k.items, m) ∷ []) → defined (insert_entry (λ (x y : Vec ℕ Global). bytes_eq x.items y.items) (x ∷ es) k m) ≡ defined (x ∷ es) ++ (k.items, m) ∷ []
behind_first x es k m true f e h = absurd (some_none (rw f at e))
behind_first x es k m false f e h =
    let t : bytes_eq k.items x.0.items ≡ bytes_eq x.0.items k.items = turned k.items x.0.items in
    let g : spelled (defined es) k.items ≡ None = rw f at e in
    rw (t, f) (ap (λ (ds : List (List ℕ × Meaning)). (x.0.items, x.1) ∷ ds) (h g))

-- one more name, which wasn't defined before
pub defined_more : (es : List (Vec ℕ Global × Meaning)) (k : Vec ℕ Global) (m : Meaning) → spelled (defined es) k.items ≡ None → defined (insert_entry (λ (x y : Vec ℕ Global). bytes_eq x.items y.items) es k m) ≡ defined es ++ (k.items, m) ∷ []
defined_more [] k m e = refl
defined_more (x ∷ es) k m e = behind_first x es k m (bytes_eq x.0.items k.items) refl e (defined_more es k m)
