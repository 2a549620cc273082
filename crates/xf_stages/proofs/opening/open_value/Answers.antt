use Rattle.seq_values.specs.Plain.{plain}
use Rattle.xf_stages.proofs.OpenTurns.{opens_stage_to, opens_inner_to, opens_nothing_to, refused_to}
use Rattle.xf_stages.specs.Parts.{StepsTo, pending_in}
use Rattle.xf_stages.proofs.opening.open_value.Goals as goal

pub returns-in_ok-more-in-Stage : goal.returns-in_ok-more-in-Stage
returns-in_ok-more-in-Stage c = opens_stage_to c.args.work c.in_ok-more-in-Stage.more (plain c.args.value.value) c.in-Stage.stage (rw c.in-Stage.is at c.in_ok-opening.ensures) c.in_ok-more-in-Stage.ensures.frames c.in_ok-more-in-Stage.ensures.stages

pub returns-in_ok-more-in-Inner : goal.returns-in_ok-more-in-Inner
returns-in_ok-more-in-Inner c = opens_inner_to c.args.work c.in_ok-more-in-Inner.more (plain c.args.value.value) _ (rw c.in-Inner.is at c.in_ok-opening.ensures) c.in_ok-more-in-Inner.ensures.frames c.in_ok-more-in-Inner.ensures.stages

pub returns-in-Nothing : goal.returns-in-Nothing
returns-in-Nothing c = let p = rw c.in-Nothing.is at c.in_ok-opening.ensures in opens_nothing_to c.args.work (plain c.args.value.value) p.0 p.1

pub returns-in-Refused : goal.returns-in-Refused
returns-in-Refused c = rw c.stops.ensures (refused_to (plain c.args.value.value) (pending_in c.args.work) (rw c.in-Refused.is at c.in_ok-opening.ensures))
