-- What a rule passes over by its own loops, it passes over by the table's; and `seq` of what `seq` finds is that itself.
use Rattle.std.proofs.Common.{◌≡◌, Bool, true, List, refl, sym, subst}
use Rattle.seq_values.specs.Model as M
use Rattle.seq_values.specs.Model.{◌&◌}
use Rattle.seq_plan.specs.Plan.{Loop, Plan, Round, then, plan_of}
use Rattle.seq_plan.specs.Nodes.{now, found}
use Rattle.seq_plan.specs.Silent as S
use Rattle.seq_turns.specs.Turning.{Silent, arrives, opens, finds}

module _ {C : Type 0} (own : Loop → Bool) (rounds all : Loop → List (M.Value C) → Round C) where
  pub silent_in : ((l : Loop) (xs : List (M.Value C)) → own l ≡ true → all l xs ≡ rounds l xs) → {p q : Plan C} → Silent own rounds p q → S.Silently all p q
  silent_in same arrives = S.arrives
  silent_in same (opens {l = l} {xs = xs} {k = k} {q = q} o s) = S.opens (subst (λ r. S.Silently all (then (plan_of r) k) q) (sym (same l xs o)) (silent_in same s))
  silent_in same (finds e s) = S.finds e (silent_in same s)

pub found_again : {C : Type 0} (v : M.Value C) {w : M.Value C} → found v ≡ now w → found w ≡ now w
found_again M.nil {w} e = let p : M.nil ≡ w = cc in subst (λ x. found x ≡ now x) p refl
found_again M.empty {w} e = let p : M.nil ≡ w = cc in subst (λ x. found x ≡ now x) p refl
found_again (M.vector M.no_values) {w} e = let p : M.nil ≡ w = cc in subst (λ x. found x ≡ now x) p refl
found_again (M.vector (x & xs)) {w} e = let p : M.vec_seq (x & xs) 0 ≡ w = cc in subst (λ x. found x ≡ now x) p refl
found_again (M.cons xs r) {w} e = let p : M.cons xs r ≡ w = cc in subst (λ x. found x ≡ now x) p refl
found_again (M.chunk xs r) {w} e = let p : M.chunk xs r ≡ w = cc in subst (λ x. found x ≡ now x) p refl
found_again (M.range from at end) {w} e = let p : M.range from at end ≡ w = cc in subst (λ x. found x ≡ now x) p refl
found_again (M.vec_seq xs at) {w} e = let p : M.vec_seq xs at ≡ w = cc in subst (λ x. found x ≡ now x) p refl
found_again (M.bool b) e = absurd cc
found_again (M.int n) e = absurd cc
found_again (M.keyword k) e = absurd cc
found_again (M.text t) e = absurd cc
found_again (M.function t xs) e = absurd cc
found_again (M.reduced v) e = absurd cc
found_again (M.cell c) e = absurd cc
