-- When the next form may be begun.
use Rattle.std.proofs.Common.{◌≡◌, ◌≢◌, ◌⊎◌, inl, inr, ℕ, zero, suc, ◌<◌, List, [], ◌∷◌, length, Some, slice_get, false, ap, sym, subst, arith}
use Rattle.clj_script.specs.Trees.{Top, Program}
use Rattle.seq_plan.specs.Plan.{Rules}
use Rattle.cell_book.specs.declared.cell.Form.{Form}
use Rattle.cell_book.specs.Account.{Account}
use Rattle.cell_book.specs.Glimpses.{glimpse}
use Rattle.cell_book.proofs.Lists.{same_or}
use Rattle.seq_meaning.specs.Names.{Name}
use Rattle.seq_lawful.specs.Sites.{FormDone}
use Rattle.seq_lawful.specs.Lawful.{Lawful}
use Rattle.seq_lawful.specs.Runs.{MayBegin}
use Rattle.seq_lawful.proofs.Begun.{begun_long}

below : (fs : List Form) (k : ℕ) (f : Form) → slice_get fs k ≡ Some f → k < length fs
below [] k f e = absurd cc
below (g ∷ fs) zero f e = omega arith
below (g ∷ fs) (suc k) f e = let i = below fs k f e in omega arith

module _ (numeric : Rules ℕ) (rules : Rules Name) (program : Program) (limit : ℕ) (a : Account) (law : Lawful rules program limit a) where
  pub next_begins : a.spent ≡ false → ((k : ℕ) (f : Form) → slice_get a.forms k ≡ Some f → suc k ≡ length a.forms → FormDone program k f) → (t : Top) → slice_get program.tops (length a.forms) ≡ Some t → MayBegin numeric program limit (glimpse a) (suc (length a.forms))
  next_begins unspent last t at = record {
    top = t;
    next = ap suc (sym (begun_long a.forms));
    is_top = subst (λ n. slice_get program.tops n ≡ Some t) (sym (begun_long a.forms)) at;
    done = λ k f e. done k f e (same_or (suc k) (length a.forms));
    unspent = unspent;
  }
    where
      done : (k : ℕ) (f : Form) → slice_get a.forms k ≡ Some f → (suc k ≡ length a.forms) ⊎ (suc k ≢ length a.forms) → FormDone program k f
      done k f e (inl q) = last k f e q
      done k f e (inr n) = law.forms_done k f e (let i = below a.forms k f e in omega arith)
