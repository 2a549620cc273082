-- How far a run has come: what its forms ended by, the book after the first forms, and what was written.
use Rattle.std.specs.Prelude.{◌≡◌, ℕ, suc, List, length, Some, slice_get}
use Rattle.seq_base.specs.declared.thrown.Thrown.{Thrown}
use Rattle.seq_values.specs.declared.value.Value.{Value as Coded}
use Rattle.clj_script.specs.Trees.{Program}
use Rattle.seq_plan.specs.Plan.{Rules}
use Rattle.cell_book.specs.declared.cell.ClaimEnd.TheVariants as E
use Rattle.cell_book.specs.declared.cell.Form.{Form}
use Rattle.cell_book.specs.Account.{Account}
use Rattle.seq_meaning.specs.Names.{Name}
use Rattle.seq_table.specs.Outputs.{Output, IsReached}
use Rattle.seq_lawful.specs.Sites.{FormDone}
use Rattle.seq_lawful.specs.Lawful.{Lawful}
use Rattle.seq_lawful.specs.Rest.{AtRest}

-- the form at a place gave this value
abbrev pub HasGiven : Account → ℕ → Coded → Type 0
HasGiven a k v = (f : Form) × (slice_get a.forms k ≡ Some f) × (f.value ≡ Some v)

-- the form at a place ended by this error
abbrev pub HasThrown : Account → ℕ → Thrown → Type 0
HasThrown a k why = (f : Form) × (slice_get a.forms k ≡ Some f) × (f.attempt.end ≡ E.Error why)

-- the form at a place ended, by a value where it is a `def`
abbrev pub IsDoneAt : Program → Account → ℕ → Type 0
IsDoneAt program a k = (f : Form) → slice_get a.forms k ≡ Some f → FormDone program k f

module _ (rules : Rules Name) (program : Program) (limit cells : ℕ) where
  -- The book after the first k forms. No claim of it is open, each future that was made has ended, and no make was refused.
  pub record Rested (a : Account) (k : ℕ) : Type 0 where
    pub lawful : Lawful rules program limit a
    pub rests : AtRest a
    pub limit_is : a.limit ≡ cells
    pub so_many : length a.forms ≡ k

  -- The run has come past the first k forms: none of them is a `def` that throws, all of them fit, and their output was written.
  pub record Reached (a : Account) (k : ℕ) (written : List ℕ) : Type 0 where
    pub rested : Rested a k
    pub done : (i : ℕ) → IsDoneAt program a i
    pub all_fit : IsReached rules program limit cells (suc k)
    pub output : Output rules program limit k written
