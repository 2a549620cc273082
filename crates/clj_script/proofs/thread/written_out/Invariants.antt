use Rattle.std.proofs.Common.{take}
use Rattle.clj_script.proofs.ThreadLemmas.{HasPut}
use Rattle.clj_script.proofs.thread.written_out.Given as goal

abbrev pub invariant-loop-step : goal.invariant-loop-step
invariant-loop-step l = HasPut l.fn.sources.items l.sources.items l.fn.least.found l.least.found l.way l.first l.standing (take l.step-index l.steps)
