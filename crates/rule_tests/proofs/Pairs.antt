-- Two well-formed values in a row.
use Rattle.std.proofs.Common.{IsTrue, [], ◌∷◌, refl}
use Rattle.seq_values.specs.WellFormed.{is_well_formed, are_well_formed}
use Rattle.seq_values.specs.declared.value.Value.{Value}

pub two_well : (v w : Value) → IsTrue (is_well_formed v) → IsTrue (is_well_formed w) → IsTrue (are_well_formed (v ∷ w ∷ []))
two_well v w h k = rw (h, k) refl
