-- What all works of a program go by, and the law of the book that they are on.
use Rattle.std.specs.Prelude.{ℕ, Bool}
use Rattle.clj_script.specs.Trees.{Program}
use Rattle.seq_plan.specs.Plan.{Plan, Rules}
use Rattle.cell_book.specs.Account.{Account, Duty}
use Rattle.cell_book.specs.Glimpses.{Glimpse, LawIs}
use Rattle.seq_meaning.specs.Names.{Name}
use Rattle.seq_lawful.specs.Lawful.{Lawful}
use Rattle.seq_lawful.specs.Renaming.{NamesRename}
use Rattle.seq_lawful.specs.Runs.{OnRun}
use Rattle.lawful_works.specs.Proper.{IsProper}

-- the rules, the program, and how many own steps each work may take
pub record Basis : Type 0 where
  pub rules : Rules ℕ
  pub program : Program
  pub limit : ℕ

-- the work's run has come to this plan, with so many own steps left
abbrev pub RunsTo : Basis → Glimpse → Duty → ℕ → Plan ℕ → Type 0
RunsTo y g w left plan = OnRun y.rules y.program y.limit g w left plan

-- the book is lawful by rules in names, and what it holds is well formed
abbrev pub IsGood : Rules Name → Basis → Account → Type 0
IsGood names y a = Lawful names y.program y.limit a × IsProper a

-- Each book that meets the law is good, or one is alone over a good book.
pub record Governs (alone : Bool) (law noted : Account → Type 0) (y : Basis) : Type 0 where
  pub names : Rules Name
  pub alike : NamesRename y.rules names y.program y.limit
  pub is : LawIs alone law noted (IsGood names y)

-- wherever the work's run has come to, it is still there
abbrev pub StaysOn : Glimpse → Glimpse → Duty → Type 0
StaysOn g h w = (y : Basis) (left : ℕ) (plan : Plan ℕ) → RunsTo y g w left plan → RunsTo y h w left plan
