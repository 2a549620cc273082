-- The number that the process ends with.
use Rattle.std.specs.Prelude.{ℕ}
use Rattle.seq_run.specs.declared.status.Status.{Status}
use Rattle.seq_run.specs.declared.status.Status.TheVariants.{Done, DefThrew, Usage, ScriptRefused, CellsSpent, ReadFault, WriteFault, NoMemory}

abbrev pub number_of : Status → ℕ
number_of Done = 0
number_of DefThrew = 1
number_of Usage = 2
number_of ScriptRefused = 3
number_of CellsSpent = 4
number_of ReadFault = 5
number_of WriteFault = 6
number_of NoMemory = 7
