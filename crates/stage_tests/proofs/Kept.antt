-- States behind one other value.
use Rattle.std.proofs.Common.{◌≡◌, ℕ, List, [], ◌∷◌, ◌++◌, length, drop, true, ap, ◌∙◌, arith}
use Rattle.std.proofs.lemmas.List.{length-map}
use Rattle.seq_values.specs.Model as M
use Rattle.seq_values.specs.Plain.{plain, plains}
use Rattle.seq_values.specs.Sight.{Kept}
use Rattle.seq_values.specs.WellFormedTerms.{are_states}
use Rattle.seq_values.specs.declared.value.Value.{Value}
use Rattle.seq_plan.specs.WellFormed.{sights}
use Rattle.xf_stages.specs.Opening.{AddsStates}

tail_of : (v : M.Value ℕ) (vs before states : List (M.Value ℕ)) → length before ≡ 1 → v ∷ vs ≡ before ++ states → vs ≡ states
tail_of v vs [] states n e = absurd cc
tail_of v vs (b ∷ []) states n e = cc
tail_of v vs (b ∷ c ∷ bs) states n e = absurd (omega (arith, n))

none_of : (before states : List (M.Value ℕ)) → length before ≡ 1 → [] ≡ before ++ states → ⊥
none_of [] states n e = cc
none_of (b ∷ bs) states n e = cc

pub states_fit : (kept : List Kept) (before all : List Value) → length before ≡ 1 → AddsStates kept (plains before) (plains all) → are_states kept (sights (M.values (plains (drop 1 all)))) ≡ true
states_fit kept before [] n a = absurd (none_of (plains before) a.states (length-map before plain ∙ n) a.all)
states_fit kept before (v ∷ vs) n a = ap (λ l. are_states kept (sights (M.values l))) (tail_of (plain v) (plains vs) (plains before) a.states (length-map before plain ∙ n) a.all) ∙ a.fit
