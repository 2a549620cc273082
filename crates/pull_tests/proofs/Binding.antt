-- What the stages of a transducer bind.
use Rattle.std.proofs.Common.{◌≡◌, ◌≢◌, true, ℤ, List, [], ◌∷◌, length, map, refl, ap, sym, subst, ◌∙◌}
use Rattle.std.specs.Prelude.{IsTrue}
use Rattle.seq_values.specs.Sight.{Sight, an_int}
use Rattle.seq_values.specs.WellFormed.{sight_of, binds, binds_stage}
use Rattle.seq_values.specs.declared.value.Value.{Value}
use Rattle.seq_values.specs.declared.words.XfKind.{XfKind}
use Rattle.seq_values.specs.declared.words.Target.TheVariants as T

pub function_binds : (kind : XfKind) (items : List Value) (v : Value) → items ≡ v ∷ [] → ((a : Sight) → binds_stage kind (a ∷ []) ≡ true) → IsTrue (binds (T.Xf kind) (map sight_of items))
function_binds kind items v e h = subst (λ xs. IsTrue (binds (T.Xf kind) (map sight_of xs))) (sym e) (h (sight_of v))

pub count_binds : (kind : XfKind) (items : List Value) (v : Value) (n : ℤ) → items ≡ v ∷ [] → sight_of v ≡ an_int n → binds_stage kind (an_int n ∷ []) ≡ true → IsTrue (binds (T.Xf kind) (map sight_of items))
count_binds kind items v n e s h = subst (λ xs. IsTrue (binds (T.Xf kind) (map sight_of xs))) (sym e) (ap (λ i. binds_stage kind (i ∷ [])) s ∙ h)

pub comp_binds : (items : List Value) → length items ≢ 0 → IsTrue (binds T.Comp (map sight_of items))
comp_binds [] n = absurd (n refl)
comp_binds (x ∷ xs) n = refl
