-- Lists of one value.
use Rattle.std.proofs.Common.{◌≡◌, ◌<◌, List, [], ◌∷◌, map, length, refl, sym, subst, arith}
use Rattle.std.specs.Prelude.{IsTrue}
use Rattle.seq_values.specs.WellFormed.{binds, sight_of}
use Rattle.seq_values.specs.declared.value.Value.{Value}
use Rattle.seq_values.specs.declared.words.Target.TheVariants.{Constantly}

pub one_bound : (xs : List Value) (v : Value) → xs ≡ v ∷ [] → IsTrue (binds Constantly (map sight_of xs))
one_bound xs v e = subst (λ ys. IsTrue (binds Constantly (map sight_of ys))) (sym e) refl

pub one_there : (xs : List Value) (v : Value) → xs ≡ v ∷ [] → 0 < length xs
one_there xs v e = subst (λ ys. 0 < length ys) (sym e) (omega arith)
