-- `seq` of what `seq` finds is that itself.
use Rattle.std.proofs.Common.{◌≡◌, ℕ, refl, sym, subst}
use Rattle.seq_values.specs.Model as M
use Rattle.seq_plan.specs.Nodes.{now, found}
use Rattle.seq_turns.proofs.Transport.{found_again}

pub seen_again : (v s w : M.Value ℕ) → found v ≡ now s → w ≡ s → found w ≡ now w
seen_again v s w e f = subst (λ x. found x ≡ now x) (sym f) (found_again v e)

pub nil_again : (w : M.Value ℕ) → w ≡ M.nil → found w ≡ now w
nil_again w f = subst (λ x. found x ≡ now x) (sym f) refl
