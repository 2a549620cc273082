use Rattle.std.proofs.Common.{take}
use Rattle.clj_script.proofs.ProgramLemmas.{HasForms}
use Rattle.clj_script.proofs.compiler.compile.Given as goal

abbrev pub invariant-loop-number : goal.invariant-loop-number
invariant-loop-number l = HasForms l.initial.tops.sources.items l.tops (take l.number-index l.number-items)
