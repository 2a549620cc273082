-- What a run of a program by a single thread writes, and how it ends.
use Rattle.std.specs.Prelude.{◌≡◌, ◌≢◌, ℕ, List, length, Option, Some, None, slice_get}
use Rattle.std.specs.Io.KnownBytes.{Appends}
use Rattle.seq_base.specs.declared.limits.Limits.{Limits}
use Rattle.clj_script.specs.Trees.{Program}
use Rattle.seq_plan.specs.Plan.{Rules}
use Rattle.seq_meaning.specs.Names.{Name}
use Rattle.seq_table.specs.Table.{language}
use Rattle.seq_table.specs.Outputs.{Ending, done, def_threw, spent, Ran, RanPart}
use Rattle.lawful_works.specs.Basis.{Basis}
use Rattle.cell_book.specs.declared.cell.Form.{Form}
use Rattle.cell_book.specs.Account.{Account}
use Rattle.seq_lawful.specs.Sites.{FormDone}
use Rattle.seq_lawful.specs.Lawful.{Lawful}
use Rattle.seq_lawful.specs.Rest.{AtRest}
use Rattle.lone_run.specs.declared.ending.RunEnd.{RunEnd}
use Rattle.lone_run.specs.declared.ending.RunEnd.TheVariants as End

-- the rules of the language, over names
abbrev pub names_of : Limits → Rules Name
names_of limits = language limits.processors

-- the same rules over the numbers of cells, the program and the limit of own steps
abbrev pub basis_of : Program → Limits → Basis
basis_of program limits = record { rules = language limits.processors; program = program; limit = limits.steps }

-- The run ends so, and all that it writes was appended.
pub record WroteAll (program : Program) (limits : Limits) (ending : Ending) (old new : Option (List ℕ)) : Type 0 where
  pub bytes : List ℕ
  pub ran : Ran (names_of limits) program limits.steps limits.cells ending bytes
  pub appended : Appends old new bytes

-- where the run came to its end, it ends as the meaning says
abbrev pub Wrote : Program → Limits → RunEnd → Option (List ℕ) → Option (List ℕ) → Type 0
Wrote program limits End.Done old new = WroteAll program limits done old new
Wrote program limits End.DefThrew old new = WroteAll program limits def_threw old new
Wrote program limits End.CellsSpent old new = WroteAll program limits spent old new
Wrote program limits End.WriteFault old new = Unit {0}
Wrote program limits End.NoMemory old new = Unit {0}

-- A prefix of what the run writes was appended.
pub record WrotePart (program : Program) (limits : Limits) (old new : Option (List ℕ)) : Type 0 where
  pub bytes : List ℕ
  pub part : RanPart (names_of limits) program limits.steps limits.cells bytes
  pub appended : Appends old new bytes

-- The book of a run that came to its end. It is lawful and at rest, no make was refused in it, and each form of the program has ended in it, a `def` by a value.
pub record RunBook (program : Program) (limits : Limits) (book : Account) : Type 0 where
  pub lawful : Lawful (names_of limits) program limits.steps book
  pub rests : AtRest book
  pub limit_is : book.limit ≡ limits.cells
  pub so_many : length book.forms ≡ length program.tops
  pub done : (k : ℕ) (f : Form) → slice_get book.forms k ≡ Some f → FormDone program k f

-- a book is handed back exactly where every form was run
abbrev pub IsRunBook : Program → Limits → RunEnd → Option Account → Type 0
IsRunBook program limits end None = end ≢ End.Done
IsRunBook program limits end (Some book) = (end ≡ End.Done) × RunBook program limits book
