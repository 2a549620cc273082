-- What is bound fits what binds it.
use Rattle.std.proofs.Common.{◌≡◌, ℤ, ◌<◌, List, [], ◌∷◌, length, map, refl, ap, sym, ◌∙◌, subst, arith}
use Rattle.std.specs.Prelude.{IsTrue}
use Rattle.seq_values.specs.Sight.{Sight, an_int}
use Rattle.seq_values.specs.WellFormed.{binds, binds_stage, sight_of}
use Rattle.seq_values.specs.declared.value.Value.{Value}
use Rattle.seq_values.specs.declared.words.Target.{Target}
use Rattle.seq_values.specs.declared.words.Target.TheVariants as T
use Rattle.seq_values.specs.declared.words.XfKind.{XfKind}

pub one_binds : (t : Target) (xs : List Value) (v : Value) → ((a : Sight) → IsTrue (binds t (a ∷ []))) → xs ≡ v ∷ [] → IsTrue (binds t (map sight_of xs))
one_binds t xs v h e = subst (λ l. IsTrue (binds t (map sight_of l))) (sym e) (h (sight_of v))

pub count_binds : (kind : XfKind) (xs : List Value) (v : Value) (n m : ℤ) → m ≡ n → IsTrue (binds_stage kind (an_int n ∷ [])) → sight_of v ≡ an_int m → xs ≡ v ∷ [] → IsTrue (binds (T.Xf kind) (map sight_of xs))
count_binds kind xs v n m k h s e = subst (λ l. IsTrue (binds_stage kind (map sight_of l))) (sym e) (subst (λ a. IsTrue (binds_stage kind (a ∷ []))) (sym (s ∙ ap an_int k)) h)

pub comp_binds : (xs : List Value) → 1 < length xs → IsTrue (binds T.Comp (map sight_of xs))
comp_binds [] h = absurd (omega (arith, h))
comp_binds (x ∷ xs) h = refl
