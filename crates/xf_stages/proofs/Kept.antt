-- What the changes of a flow keep.
use Rattle.std.proofs.Common.{◌≡◌, ℕ, ◌+◌, ◌≤◌, ◌<◌, List, [], ◌∷◌, length, drop, slice_set, slice_index_or, All, ap, sym, ◌∙◌, subst}
use Rattle.std.proofs.lemmas.List.{length-set, drop_more}
use Rattle.xf_stages.specs.declared.state.Stage.{Stage}
use Rattle.xf_stages.specs.declared.state.Walk.{Walk}

pub within_set : (ws : List Walk) (xs ys : List Stage) (at : ℕ) (s : Stage) → ys ≡ slice_set xs at s → All (λ w. w.at ≤ length xs) ws → All (λ w. w.at ≤ length ys) ws
within_set ws xs ys at s e h = subst (λ n. All (λ w. w.at ≤ n) ws) (sym (ap length e ∙ length-set xs at s)) h

-- the stage at a place is the first of those from there on
pub first_left : (xs : List Stage) (at : ℕ) (s : Stage) → at < length xs → s ≡ slice_index_or xs at s → drop at xs ≡ s ∷ drop (at + 1) xs
first_left xs at s b e = drop_more xs at s b ∙ ap (λ x. x ∷ drop (at + 1) xs) (sym e)
