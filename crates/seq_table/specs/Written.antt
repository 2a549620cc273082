-- What worked scripts write, whole, with four processors: for step limits and cell limits as great as they need, and one cell fewer where it is told.
use Rattle.std.specs.Prelude.{◌≡◌, ℕ, ◌≤◌, List, Option, Some, codes}
use Rattle.clj_script.specs.Trees.{Program}
use Rattle.seq_table.specs.Table.{language}
use Rattle.seq_table.specs.Worked.{first_of_map, none_kept, failing_chunk, failing_def, made_script}
use Rattle.seq_table.specs.Outputs.{done, def_threw, spent, Ran}
use Rattle.seq_table.specs.Generated.{generated}
use Rattle.seq_table.specs.Answers.{generates, ended, Refusal, Answered}

abbrev pub FirstOfMapWritten : Type 0
FirstOfMapWritten = ((limit cells : ℕ) → 3 ≤ limit → 2 ≤ cells → Ran (language 4) first_of_map limit cells done (codes "1\nxs 3\ncells 2 realised 1 failed 0\n")) × ((limit : ℕ) → 3 ≤ limit → Ran (language 4) first_of_map limit 1 spent (codes ""))

abbrev pub NoneKeptWritten : Type 0
NoneKeptWritten = (limit cells : ℕ) → 32 ≤ limit → 3 ≤ cells → Ran (language 4) none_kept limit cells done (codes "nil\ne 0 end\ncells 3 realised 3 failed 0\n")

abbrev pub FailingChunkWritten : Type 0
FailingChunkWritten = (limit cells : ℕ) → 18 ≤ limit → 1 ≤ cells → Ran (language 4) failing_chunk limit cells done (codes "threw divide\nthrew divide\nq 0\ncells 1 realised 0 failed 2\n")

-- The second form isn't run.
abbrev pub FailingDefWritten : Type 0
FailingDefWritten = (limit cells : ℕ) → 1 ≤ limit → Ran (language 4) failing_def limit cells def_threw (codes "threw type\n")

abbrev pub MadeScriptWritten : Type 0
MadeScriptWritten = (limit cells : ℕ) → 7 ≤ limit → 15 ≤ cells → Ran (language 4) made_script limit cells done (codes "1\ns1 1\ncells 15 realised 13 failed 0\n")

-- Where the text that is made from 1 has the program above, the answer tells its forms, how many lines its run wrote, and the last of them.
abbrev pub MadeScriptAnswered : Type 0
MadeScriptAnswered = (reads : List ℕ → Option Program) (refuses : List ℕ → Option Refusal) (script : List ℕ) (limit cells : ℕ) → 7 ≤ limit → 15 ≤ cells → reads (generated 1) ≡ Some made_script → Answered (λ bytes program. reads bytes ≡ Some program) (λ bytes refusal. refuses bytes ≡ Some refusal) script (Some (record { request = generates 1; processors = 4; cells = cells; steps = limit })) (ended done) (codes "forms 3\nlines 3\ncells 15 realised 13 failed 0\n")
