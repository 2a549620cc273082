use Rattle.xf_stages.proofs.CompleteTurns.{input_ends}
use Rattle.xf_stages.proofs.completing.finish.Goals as goal

pub returns-in-Input-clause-leads : goal.returns-in-Input-clause-leads
returns-in-Input-clause-leads c = input_ends c.args.flow c.in-Input.last c.args.done c.rests.result c.requires c.in-Input.is c.rests.ensures.stages c.rests.ensures.done

pub returns-in-Completion-clause-leads : goal.returns-in-Completion-clause-leads
returns-in-Completion-clause-leads c = c.completes.ensures.leads c.args.done
