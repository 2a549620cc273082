-- What stands at the top of a program.
use Rattle.std.proofs.Common.{◌≡◌, ℕ, zero, suc, ◌+◌, ◌<◌, List, [], ◌∷◌, length, Option, Some, None, refl, ap, sym, ◌∙◌, arith, add-one}
use Rattle.std.specs.Prelude.{slice_get}
use Rattle.std.specs.Option.{option_map}
use Rattle.clj_script.specs.Trees as tree
use Rattle.clj_script.specs.Seen.{numbered, top_over}
use Rattle.clj_script.specs.declared.program.Top.{Top}

numbered_next : {X : Type 0} (xs : List X) (i : ℕ) → numbered xs (i + 1) ≡ slice_get xs i
numbered_next xs i = rw add-one refl

past : {X : Type 0} (xs : List X) (i : ℕ) → None ≡ slice_get xs i → i < length xs → ⊥
past [] i e h = omega arith
past (x ∷ xs) zero e h = cc
past (x ∷ xs) (suc i) e h = past xs i e (omega arith)

pub stands_at : (trees : List tree.Expr) (ts : List tree.Top) (i : ℕ) (t : Top) (o : Option Top) → o ≡ Some t → option_map (top_over trees) o ≡ numbered ts (i + 1) → slice_get ts i ≡ Some (top_over trees t)
stands_at trees ts i t o p q = sym (numbered_next ts i) ∙ (sym q ∙ ap (option_map (top_over trees)) p)

pub is_there : (trees : List tree.Expr) (ts : List tree.Top) (i : ℕ) (o : Option Top) → o ≡ None → option_map (top_over trees) o ≡ numbered ts (i + 1) → i < length ts → ⊥
is_there trees ts i o p q h = past ts i (ap (option_map (top_over trees)) (sym p) ∙ (q ∙ numbered_next ts i)) h
