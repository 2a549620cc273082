use Rattle.xf_stages.proofs.Leading.{turned, enters_next, through_next}
use Rattle.xf_stages.proofs.running.run.Goals as goal

pub loop-here-init : goal.loop-here-init
loop-here-init c = record { leads = λ stages course h. h }

pub returns-in-Turned : goal.returns-in-Turned
returns-in-Turned c = λ stages course h. turned (rw c.in-Turned.is at (c.loop-here.invariant.leads stages course h))

pub loop-here-preserved-in_ok-here-in-Entering : goal.loop-here-preserved-in_ok-here-in-Entering
loop-here-preserved-in_ok-here-in-Entering c = record { leads = λ stages course h. enters_next c.in-Entering.flow c.in-Entering.at c.in-Entering.item c.in_ok-here-in-Entering.here (rw c.in-Entering.is at (c.loop-here.invariant.leads stages course h)) c.in_ok-here-in-Entering.ensures.leads }

pub loop-here-preserved : goal.loop-here-preserved
loop-here-preserved c = record { leads = λ stages course h. through_next c.in-Through.flow c.in-Through.done c.goes_through.result (rw c.in-Through.is at (c.loop-here.invariant.leads stages course h)) c.goes_through.ensures.leads }
