-- The value at a place.
use Rattle.std.proofs.Common.{◌≡◌, ℕ, zero, suc, List, [], ◌∷◌, drop, sym, ap}
use Rattle.seq_values.specs.Model as M
use Rattle.seq_values.specs.Plain.{plain, plains}
use Rattle.seq_values.specs.declared.value.Value.{Value}
use Rattle.seq_plan.specs.Nodes.{value_at}

pub value_there : (xs : List Value) (at : ℕ) (v : Value) (ys : List Value) → drop at xs ≡ v ∷ ys → plain v ≡ value_at (plains xs) at
value_there [] zero v ys e = absurd cc
value_there [] (suc at) v ys e = absurd cc
value_there (x ∷ xs) zero v ys e = let p : x ≡ v = cc in ap plain (sym p)
value_there (x ∷ xs) (suc at) v ys e = value_there xs at v ys e

pub no_value_there : (xs : List Value) (at : ℕ) (v : M.Value ℕ) → drop at xs ≡ [] → v ≡ M.nil → v ≡ value_at (plains xs) at
no_value_there [] zero v e n = n
no_value_there [] (suc at) v e n = n
no_value_there (x ∷ xs) zero v e n = absurd cc
no_value_there (x ∷ xs) (suc at) v e n = no_value_there xs at v e n
