-- One more frame.
use Rattle.std.proofs.Common.{◌≡◌, ℕ, ◌+◌, List, [], ◌∷◌, ◌++◌, refl, ap, ◌∙◌, arith}
use Rattle.std.specs.Prelude.{sum_by}
use Rattle.std.proofs.lemmas.List.Sums.{sum_by-append}
use Rattle.seq_values.specs.Model as M
use Rattle.seq_plan.specs.Plan.{Plan}
use Rattle.eval_frames.specs.Frames.{Ground, waits, under}
use Rattle.eval_frames.specs.declared.state.Frame.{Frame}

module _ {S : Type 0} {b : _} (by : Ground S) where
  pub under_push : (k : M.Value ℕ → Plan ℕ) (fs : List (Frame S b)) (f : Frame S b) → under by k (fs ++ f ∷ []) ≡ waits by f (under by k fs)
  under_push k [] f = refl
  under_push k (g ∷ fs) f = under_push (waits by g k) fs f

  pub pushed_under : (k : M.Value ℕ → Plan ℕ) (fs gs : List (Frame S b)) (f : Frame S b) → gs ≡ fs ++ f ∷ [] → under by k gs ≡ waits by f (under by k fs)
  pushed_under k fs gs f e = ap (under by k) e ∙ under_push k fs f

pub pushed_sum : {X : Type 0} (w : X → ℕ) (fs gs : List X) (f : X) (k : ℕ) → gs ≡ fs ++ f ∷ [] → k + sum_by w gs ≡ (k + sum_by w fs) + w f
pushed_sum w fs gs f k e = let p : sum_by w gs ≡ sum_by w fs + w f = ap (sum_by w) e ∙ (sum_by-append w fs (f ∷ []) ∙ omega arith) in omega (arith, p)
