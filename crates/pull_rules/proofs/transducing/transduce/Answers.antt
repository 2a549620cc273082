use Rattle.std.proofs.Common.{subst}
use Rattle.seq_values.specs.Plain.{plain}
use Rattle.seq_plan.specs.Stages.{with_stages}
use Rattle.stage_rows.specs.Table.{transduce_rule}
use Rattle.xf_stages.specs.Opening.{Opens, IfStages, AreFresh}
use Rattle.pull_rules.proofs.TransduceTurns.{thrown, transduce_goes}
use Rattle.pull_rules.proofs.transducing.transduce.Goals as goal

pub returns-in-Thrown : goal.returns-in-Thrown
returns-in-Thrown c = thrown (plain c.args.transducer.value) (λ stages. transduce_rule stages (plain c.args.function.value) (plain c.args.answer.value) (plain c.args.source.value)) c.in-Thrown.why c.not_three.result (subst (λ o. Opens (with_stages (plain c.args.transducer.value)) o) c.in-Thrown.is c.in_ok-what.ensures.opens) c.not_three.ensures

pub returns-in_ok-next-in-Stages : goal.returns-in_ok-next-in-Stages
returns-in_ok-next-in-Stages c = transduce_goes (plain c.args.transducer.value) (plain c.args.function.value) (plain c.args.answer.value) (plain c.args.source.value) c.in-Stages.stages c.in_ok-next-in-Stages.next (subst (λ o. Opens (with_stages (plain c.args.transducer.value)) o) c.in-Stages.is c.in_ok-what.ensures.opens) (subst (λ o. IfStages o AreFresh) c.in-Stages.is c.in_ok-what.ensures.fresh) c.in_ok-next-in-Stages.ensures
