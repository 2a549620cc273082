-- Which arguments the terms that are made have.
use Rattle.std.proofs.Common.{◌≡◌, ◌≤◌, ◌+◌, true, List, [], ◌∷◌, ◌++◌, map, length, refl, ap, sym, ◌∙◌, append_assoc, arith}
use Rattle.seq_values.specs.declared.value.Value.{Value}
use Rattle.seq_values.specs.declared.words.Op.{Op}
use Rattle.seq_values.specs.declared.words.Op.TheVariants as O
use Rattle.seq_values.specs.Sight.{Sight}
use Rattle.seq_values.specs.WellFormed.{sight_of}
use Rattle.seq_values.specs.WellFormedTerms.{takes}
use Rattle.lazy_rules.specs.Left.{sift_op}
use Rattle.lazy_rules.specs.declared.state.Keeps.{Keeps}
use Rattle.lazy_rules.specs.declared.state.Keeps.TheVariants as K

pub sift_takes : (k : Keeps) (op : Op) → op ≡ sift_op k → (a b : Sight) → takes op (a ∷ b ∷ []) ≡ true
sift_takes K.Answers op e a b = ap (λ o. takes o (a ∷ b ∷ [])) e
sift_takes K.Elements op e a b = ap (λ o. takes o (a ∷ b ∷ [])) e
sift_takes K.SomeAnswers op e a b = ap (λ o. takes o (a ∷ b ∷ [])) e

-- one more behind what was gathered
pub tail_more : (all more rest whole : List Value) (v : Value) (after : List Value) → more ≡ all ++ v ∷ [] → rest ≡ v ∷ after → all ++ rest ≡ whole → more ++ after ≡ whole
tail_more all more rest whole v after m r h = ap (λ xs. xs ++ after) m ∙ append_assoc all (v ∷ []) after ∙ sym (ap (λ xs. all ++ xs) r) ∙ h

pub takes_several : (xs : List Value) → 3 ≤ length xs → length xs ≤ 5 → takes O.MapN (map sight_of xs) ≡ true
takes_several (a ∷ b ∷ c ∷ []) p q = refl
takes_several (a ∷ b ∷ c ∷ d ∷ []) p q = refl
takes_several (a ∷ b ∷ c ∷ d ∷ e ∷ []) p q = refl
takes_several (a ∷ b ∷ c ∷ d ∷ e ∷ f ∷ xs) p q = absurd (omega arith)
takes_several (a ∷ b ∷ []) p q = absurd (omega arith)
takes_several (a ∷ []) p q = absurd (omega arith)
takes_several [] p q = absurd (omega arith)
