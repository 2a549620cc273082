-- The values of the forms before are what references see.
use Rattle.std.proofs.Common.{◌≡◌, ℕ, suc, ◌+◌, List, [], ◌∷◌, ◌++◌, length, length-append, Some, slice_get, refl, ap, sym, subst, ◌∙◌, arith}
use Rattle.seq_values.specs.Model.{Value, nil}
use Rattle.clj_script.specs.Trees.{Top, def, Program}
use Rattle.seq_plan.specs.Plan.{Rules}
use Rattle.seq_meaning.specs.Names.{Name}
use Rattle.seq_meaning.specs.Gives.{IsNoDef, defn_none, prn_none, ledger_none, Before, none_before, def_before, other_before}
use Rattle.seq_meaning.specs.Referred.{seen_of, referred}

module _ {C : Type 0} where
  pub none_left : (tops : List Top) → referred {C = C} tops [] ≡ []
  none_left [] = refl
  none_left (t ∷ tops) = refl

  pub pushed : (tops : List Top) (vs : List (Value C)) {t : Top} (v : Value C) → slice_get tops (length vs) ≡ Some t → referred tops (vs ++ v ∷ []) ≡ referred tops vs ++ seen_of t v ∷ []
  pushed [] vs v q = absurd cc
  pushed (s ∷ tops) [] {t = t} v q = let e : s ≡ t = cc in rw (e, none_left tops)
  pushed (s ∷ tops) (u ∷ vs) v q = ap (λ l. seen_of s u ∷ l) (pushed tops vs v q)

one : {n k : ℕ} → n ≡ k → n + 1 ≡ suc k
one h = omega (arith, h)

nil_seen : {t : Top} → IsNoDef t → seen_of {C = Name} t nil ≡ nil
nil_seen defn_none = refl
nil_seen prn_none = refl
nil_seen ledger_none = refl

module _ (rules : Rules Name) (program : Program) (limit : ℕ) where
  pub as_many : {k : ℕ} {defs : List (Value Name)} → Before rules program limit k defs → length defs ≡ k
  as_many none_before = refl
  as_many (def_before {defs = ds} {v = v} b q g e) = ap length e ∙ length-append ds (v ∷ []) ∙ one (as_many b)
  as_many (other_before {defs = ds} b q n e) = ap length e ∙ length-append ds (nil ∷ []) ∙ one (as_many b)

  pub kept_is_seen : {k : ℕ} {defs : List (Value Name)} → Before rules program limit k defs → referred program.tops defs ≡ defs
  kept_is_seen none_before = none_left program.tops
  kept_is_seen (def_before {name = name} {defs = ds} {e = x} {v = v} b q g e) = subst (λ l. referred program.tops l ≡ l) (sym e) (pushed program.tops ds v (subst (λ i. slice_get program.tops i ≡ Some (def name x)) (sym (as_many b)) q) ∙ ap (λ l. l ++ v ∷ []) (kept_is_seen b))
  kept_is_seen (other_before {defs = ds} {t = t} b q n e) = subst (λ l. referred program.tops l ≡ l) (sym e) (pushed program.tops ds nil (subst (λ i. slice_get program.tops i ≡ Some t) (sym (as_many b)) q) ∙ (ap (λ l. referred program.tops ds ++ l ∷ []) (nil_seen n) ∙ ap (λ l. l ++ nil ∷ []) (kept_is_seen b)))
