-- A value twice in a vector.
use Rattle.std.proofs.Common.{◌≡◌, refl, ℕ, ◌+◌, ◌≤◌, max, List, [], ◌∷◌, ◌∙◌, arith}
use Rattle.std.specs.Prelude.{IsTrue}
use Rattle.seq_values.specs.declared.value.Value.{Value}
use Rattle.seq_values.specs.declared.value.Value.TheVariants as V
use Rattle.seq_values.specs.Depth.{depth, depth_of_all}
use Rattle.seq_values.specs.WellFormed.{is_well_formed, are_well_formed}
use Rattle.seq_values.proofs.DepthLemmas.{both, vector_is_deep}

pub twice_well : (v : Value) → IsTrue (is_well_formed v) → IsTrue (are_well_formed (v ∷ v ∷ []))
twice_well v h = both _ _ h (both _ _ h refl)

pub twice_within : (v : Value) → depth v ≤ 255 → depth_of_all (v ∷ v ∷ []) ≤ 255
twice_within v h = omega (arith, h)

pub twice_is_deep : (v : Value) (kept : ℕ) → depth (V.Vector kept (v ∷ v ∷ [])) ≡ depth v + 1
twice_is_deep v kept = omega (arith, vector_is_deep (v ∷ v ∷ []) kept)
