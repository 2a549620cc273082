-- What the program answers: the reader's and the compiler's relations and the words of the command line as parameters of the one definition of an answer.
use Rattle.std.specs.Prelude.{◌≡◌, ℕ, Bool, true, false, List, [], length, Option, Some, None, IfSome, ◌≢◌, ◌⊎◌}
use Rattle.std.specs.Io.KnownBytes.{Appends, Keeps}
use Rattle.clj_reader.specs.declared.place.Place.{Place}
use Rattle.clj_reader.specs.declared.form.Form.{Form}
use Rattle.clj_reader.specs.declared.refusal.ReadRefusal.{ReadRefusal}
use Rattle.clj_reader.specs.Scripts.{IsScript, IsRefused}
use Rattle.clj_script.specs.declared.refusal.ScriptRefusal.{ScriptRefusal}
use Rattle.clj_script.specs.Trees.{Program}
use Rattle.clj_script.specs.Scripts.{Means}
use Rattle.clj_script.specs.Seen.{IsRefusal}
use Rattle.command_line.specs.declared.given.Request.{Request}
use Rattle.command_line.specs.declared.given.Request.TheVariants as R
use Rattle.command_line.specs.declared.given.Options.{Options}
use Rattle.seq_run.specs.declared.status.Status.{Status}
use Rattle.seq_run.specs.declared.status.Status.TheVariants as S
use Rattle.seq_base.specs.declared.limits.Limits.{Limits}
use Rattle.cell_book.specs.Account.{Account}
use Rattle.lone_run.specs.Running.{RunBook}
use Rattle.lone_run.specs.declared.ending.RunEnd.{RunEnd}
use Rattle.lone_run.specs.declared.ending.RunEnd.TheVariants as End
use Rattle.seq_run.specs.Lines.{AppendsPart}
use Rattle.seq_table.specs.Table.{language}
use Rattle.seq_table.specs.Outputs.{Ending, done, def_threw, spent, Ran, RanPart}
use Rattle.seq_table.specs.Generated.{generated}
use Rattle.seq_table.specs.Answers as meaning

-- ## Scripts

-- the text is a script, whose forms mean the program
pub record MeansText (text : List ℕ) (program : Program) : Type 0 where
  pub forms : List Form
  pub script : IsScript text forms
  pub means : Means forms program []

abbrev pub refusal_at : ℕ → Place → meaning.Refusal
refusal_at number place = record { number = number; line = place.line; column = place.column }

-- The text is refused by the reader; or its forms mean no program, and this is the least refusal of them.
pub data RefusesText (text : List ℕ) : meaning.Refusal → Type 0 where
  unread : (r : ReadRefusal) → IsRefused text r → RefusesText text (refusal_at r.number r.place)
  no_program : (forms : List Form) (r : ScriptRefusal) → IsScript text forms → IsRefusal forms r → RefusesText text (refusal_at r.number r.place)

-- ## Options and statuses

abbrev pub request_as : Request → meaning.Request
request_as R.Run = meaning.runs
request_as R.Check = meaning.checks
request_as (R.Generate n) = meaning.generates n

abbrev pub options_as : Options → meaning.Options
options_as o = record { request = request_as o.request; processors = o.limits.processors; cells = o.limits.cells; steps = o.limits.steps }

abbrev pub status_of : Ending → Status
status_of done = S.Done
status_of def_threw = S.DefThrew
status_of spent = S.CellsSpent

abbrev pub status_as : meaning.Status → Status
status_as meaning.usage = S.Usage
status_as meaning.script_refused = S.ScriptRefused
status_as (meaning.ended e) = status_of e

-- ## Answers

-- the answer to a text, by what the words ask for
abbrev pub Answered : Options → List ℕ → meaning.Status → List ℕ → Type 0
Answered options text = meaning.Answered MeansText RefusesText text (Some (options_as options))

-- a text has one answer at most: one status and one output
abbrev pub OneAnswer : Type 0
OneAnswer = (options : Options) (text : List ℕ) (status other : meaning.Status) (output another : List ℕ) → Answered options text status output → Answered options text other another → (status ≡ other) × (output ≡ another)

-- the status is that of the text's answer, whose whole output was appended
pub record Printed (options : Options) (text : List ℕ) (status : Status) (old new : Option (List ℕ)) : Type 0 where
  pub answer : meaning.Status
  pub output : List ℕ
  pub answered : Answered options text answer output
  pub is : status ≡ status_as answer
  pub appended : Appends old new output

-- Nothing was appended, or a prefix of the answer's output; or what a run of the script writes before all of it is known.
pub data PrintedPart (options : Options) (text : List ℕ) (old new : Option (List ℕ)) : Type 0 where
  nothing : Keeps old new → PrintedPart options text old new
  of_answer : (answer : meaning.Status) (output : List ℕ) → Answered options text answer output → AppendsPart old new output → PrintedPart options text old new
  of_run : (program : Program) (bytes : List ℕ) → options.request ≡ R.Run → MeansText text program → RanPart (language options.limits.processors) program options.limits.steps options.limits.cells bytes → Appends old new bytes → PrintedPart options text old new

-- ## What is read

-- the statuses of a whole answer
abbrev pub IsAnswer : Status → Type 0
IsAnswer s = (s ≡ S.Done) ⊎ (s ≡ S.DefThrew) ⊎ (s ≡ S.CellsSpent) ⊎ (s ≡ S.ScriptRefused)

-- the statuses of a script that was run or looked at
abbrev pub IsEnd : Status → Type 0
IsEnd s = (s ≡ S.Done) ⊎ (s ≡ S.DefThrew) ⊎ (s ≡ S.CellsSpent)

-- for a script that is made nothing is read
abbrev pub Reads : Request → Type 0
Reads (R.Generate n) = ⊥
Reads _ = Unit {0}

-- It holds for the text that is left to read, where that is known; for a script that is made, it holds whatever the text.
abbrev pub IfKnown : Request → Option (List ℕ) → (List ℕ → Type 0) → Type 0
IfKnown (R.Generate n) left P = (text : List ℕ) → P text
IfKnown _ left P = IfSome left P

-- ## The end of a run

abbrev pub status_at : RunEnd → Status
status_at End.Done = S.Done
status_at End.DefThrew = S.DefThrew
status_at End.CellsSpent = S.CellsSpent
status_at End.WriteFault = S.WriteFault
status_at End.NoMemory = S.NoMemory

abbrev pub cut_off : RunEnd → Bool
cut_off End.WriteFault = true
cut_off End.NoMemory = true
cut_off _ = false

-- ## The book of a run

-- A book is handed back where the script was run to its end, as the words ask: the book of that run. Else there is none.
abbrev pub IsBook : Options → List ℕ → Status → Option Account → Type 0
IsBook options text status None = options.request ≡ R.Run → status ≢ S.Done
IsBook options text status (Some book) = (options.request ≡ R.Run) × (status ≡ S.Done) × (program : Program) × MeansText text program × RunBook program options.limits book

-- ## Scripts that are made

-- the program was run, with this status, and the text tells of what the run wrote
pub record RanMade (program : Program) (limits : Limits) (status : Status) (text : List ℕ) : Type 0 where
  pub ending : Ending
  pub bytes : List ℕ
  pub ran : Ran (language limits.processors) program limits.steps limits.cells ending bytes
  pub is : status ≡ status_of ending
  pub told : text ≡ meaning.summary (length program.tops) bytes

-- the script that is made from the number was run so
pub record IsMade (number : ℕ) (limits : Limits) (status : Status) (text : List ℕ) : Type 0 where
  pub program : Program
  pub means : MeansText (generated number) program
  pub made : RanMade program limits status text
