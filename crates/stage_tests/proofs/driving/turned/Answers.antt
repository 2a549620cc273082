use Rattle.stage_tests.proofs.Leading.{call_follows, seq_follows, step_follows, out_follows, same_follows}
use Rattle.xf_stages.specs.declared.state.StageTurn.TheVariants as R
use Rattle.stage_tests.proofs.driving.turned.Goals as goal

pub returns-in-Apply : goal.returns-in-Apply
returns-in-Apply c = call_follows c.args.turn c.in-Apply.waiting c.in-Apply.function c.in-Apply.args c.called.result c.in-Apply.is c.called.ensures

pub returns-in-Seq : goal.returns-in-Seq
returns-in-Seq c = seq_follows c.args.turn c.in-Seq.waiting c.in-Seq.value c.sought.result c.in-Seq.is c.sought.ensures

pub returns-in-Visit : goal.returns-in-Visit
returns-in-Visit c = step_follows c.args.turn c.in-Visit.waiting c.stepped.result c.in-Visit.is c.stepped.ensures

pub returns-in-Out : goal.returns-in-Out
returns-in-Out c = out_follows c.args.turn c.in-Out.waiting c.in-Out.item c.passed.result c.in-Out.is c.passed.ensures

pub returns-in-Throw : goal.returns-in-Throw
returns-in-Throw c = same_follows c.args.turn (R.Throw c.in-Throw.why) c.in-Throw.is

pub returns-in-Rest : goal.returns-in-Rest
returns-in-Rest c = same_follows c.args.turn (R.Rest c.in-Rest.stages) c.in-Rest.is
