-- The next make of a run.
use Rattle.std.proofs.Common.{◌≡◌, ap, ◌∙◌, List, [], ◌∷◌, ◌++◌, length, slice_get, Some, refl}
use Rattle.seq_meaning.specs.Walk.{Made, Run, needs, ends, over, makes_of, also}
use Rattle.seq_meaning.specs.Reached.{also_all}
use Rattle.seq_table.proofs.TrueWalk.{also_all-needs, also_all-ends}

module _ {C : Type 0} where
  last_of_made : (ms ns : List (Made C)) (m : Made C) → slice_get (ms ++ m ∷ ns) (length ms) ≡ Some m
  last_of_made [] ns m = refl
  last_of_made (x ∷ ms) ns m = last_of_made ms ns m

  pub make_here : (ms : List (Made C)) (m : Made C) (r : Run C) → (¬ (r ≡ over)) → slice_get (makes_of (also_all ms (also m r))) (length ms) ≡ Some m
  make_here ms m (needs c ns) h = ap (λ r. slice_get (makes_of r) (length ms)) (also_all-needs ms (m ∷ ns) c) ∙ last_of_made ms ns m
  make_here ms m (ends o ns) h = ap (λ r. slice_get (makes_of r) (length ms)) (also_all-ends ms (m ∷ ns) o) ∙ last_of_made ms ns m
  make_here ms m over h = absurd (h refl)
