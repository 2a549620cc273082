-- What a form of a program defines.
use Rattle.std.proofs.Common.{◌≡◌, ℕ, zero, suc, ◌+◌, ◌<◌, List, [], ◌∷◌, length, Option, Some, None, refl, ap, sym, ◌∙◌, arith, add-one}
use Rattle.std.specs.Prelude.{slice_get}
use Rattle.std.specs.Option.{option_map}
use Rattle.clj_script.specs.Trees as tree
use Rattle.clj_script.specs.Nodes.{at}
use Rattle.clj_script.specs.Seen.{numbered, top_over}
use Rattle.clj_script.specs.declared.program.Top.{Top}
use Rattle.clj_script.specs.declared.program.Top.TheVariants as T
use Rattle.seq_meaning.specs.Gives.{IsNoDef, defn_none, prn_none, ledger_none}
use Rattle.seq_ledger.specs.Ledgers.{DefinesAt}

numbered_next : {X : Type 0} (xs : List X) (i : ℕ) → numbered xs (i + 1) ≡ slice_get xs i
numbered_next xs i = rw add-one refl

pub defines_name : (trees : List tree.Expr) (ts : List tree.Top) (i name expr : ℕ) (o : Option Top) → o ≡ Some (T.Def name expr) → option_map (top_over trees) o ≡ numbered ts (i + 1) → DefinesAt ts i (Some name)
defines_name trees ts i name expr o p q = (at trees expr, sym (numbered_next ts i) ∙ (sym q ∙ ap (option_map (top_over trees)) p))

none_at : (trees : List tree.Expr) (ts : List tree.Top) (i : ℕ) (t : Top) (o : Option Top) → o ≡ Some t → option_map (top_over trees) o ≡ numbered ts (i + 1) → IsNoDef (top_over trees t) → DefinesAt ts i None
none_at trees ts i t o p q none = (top_over trees t, sym (numbered_next ts i) ∙ (sym q ∙ ap (option_map (top_over trees)) p), none)

pub defines_defn : (trees : List tree.Expr) (ts : List tree.Top) (i : ℕ) (o : Option Top) → o ≡ Some T.Defn → option_map (top_over trees) o ≡ numbered ts (i + 1) → DefinesAt ts i None
defines_defn trees ts i o p q = none_at trees ts i T.Defn o p q defn_none

pub defines_prn : (trees : List tree.Expr) (ts : List tree.Top) (i expr : ℕ) (o : Option Top) → o ≡ Some (T.Prn expr) → option_map (top_over trees) o ≡ numbered ts (i + 1) → DefinesAt ts i None
defines_prn trees ts i expr o p q = none_at trees ts i (T.Prn expr) o p q prn_none

pub defines_ledger : (trees : List tree.Expr) (ts : List tree.Top) (i : ℕ) (o : Option Top) → o ≡ Some T.Ledger → option_map (top_over trees) o ≡ numbered ts (i + 1) → DefinesAt ts i None
defines_ledger trees ts i o p q = none_at trees ts i T.Ledger o p q ledger_none

past : {X : Type 0} (xs : List X) (i : ℕ) → None ≡ slice_get xs i → i < length xs → ⊥
past [] i e h = omega arith
past (x ∷ xs) zero e h = cc
past (x ∷ xs) (suc i) e h = past xs i e (omega arith)

pub is_there : (trees : List tree.Expr) (ts : List tree.Top) (i : ℕ) (o : Option Top) → o ≡ None → option_map (top_over trees) o ≡ numbered ts (i + 1) → i < length ts → ⊥
is_there trees ts i o p q h = past ts i (ap (option_map (top_over trees)) (sym p) ∙ (q ∙ numbered_next ts i)) h
