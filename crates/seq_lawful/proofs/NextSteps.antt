-- What the steps of a claim are under one of its names.
use Rattle.std.specs.Prelude.{◌≡◌, ℕ, List, Some, slice_get}
use Rattle.seq_values.specs.declared.words.Kind.{Kind}
use Rattle.seq_values.specs.declared.value.Value.{Value as Coded}
use Rattle.seq_values.specs.Model.{Value, Term, Outcome}
use Rattle.seq_values.specs.Plain.{plains}
use Rattle.clj_script.specs.Trees.{Program}
use Rattle.seq_plan.specs.Plan.{Rules}
use Rattle.seq_plan.specs.Alike.{LikeList, LikeTerm}
use Rattle.cell_book.specs.Account.{Account}
use Rattle.seq_meaning.specs.Gives.{work, Task, run, Of, True}
use Rattle.seq_meaning.specs.Names.{Name}
use Rattle.seq_meaning.specs.Walk.{made, makes_of}
use Rattle.seq_meaning.specs.Referred.{referred}
use Rattle.seq_lawful.specs.Sites.{Mode}
use Rattle.seq_lawful.specs.Lawful.{Needs, CellName, called}

module _ (rules : Rules Name) (program : Program) (limit : ℕ) (a : Account) (mode : Mode) where
  -- the claim's run makes this next, with so many makes before it
  pub data MakesNext (kind : Kind) (t : Term ℕ) (kept : List Coded) (before : ℕ) (e : Name) : Type 0 where
    makes_next : {defs : List (Value Name)} {task : Task} {os : List (Outcome Name)} {u : Term Name} → Of rules program limit e (work defs task) → True rules program limit e os → slice_get (makes_of (run rules program limit e (work defs task) os)) before ≡ Some (made kind u) → LikeTerm (called rules program limit a mode) t u → LikeList (called rules program limit a mode) (referred program.tops (plains kept)) defs → MakesNext kind t kept before e

  -- the claim's run needs the cell next
  pub data NeedsCell (id : ℕ) (e : Name) : Type 0 where
    needs_cell : {n : Name} → Needs rules program limit e n → CellName rules program limit a mode id n → NeedsCell id e
