use Rattle.std.proofs.Common.{subst}
use Rattle.xf_stages.specs.Left.{Goes}
use Rattle.pull_rules.proofs.waiting.flowed.Goals as goal

pub returns-in-Apply : goal.returns-in-Apply
returns-in-Apply c = λ stages course g. c.asks_call.ensures stages course (subst (λ t. Goes stages course t) c.in-Apply.is g)

pub returns-in-Seq : goal.returns-in-Seq
returns-in-Seq c = λ stages course g. c.asks_seq.ensures stages course (subst (λ t. Goes stages course t) c.in-Seq.is g)

pub returns-in-Visit : goal.returns-in-Visit
returns-in-Visit c = λ stages course g. c.asks_step.ensures stages course (subst (λ t. Goes stages course t) c.in-Visit.is g)
