use Rattle.std.proofs.Common.{[], refl, subst}
use Rattle.seq_values.specs.Plain.{plain}
use Rattle.seq_plan.specs.Plan.{call}
use Rattle.seq_plan.specs.Stages.{with_stages}
use Rattle.stage_rows.specs.Table.{transduce_rule}
use Rattle.xf_stages.specs.Opening.{Opens, IfStages, AreFresh}
use Rattle.pull_rules.proofs.TransduceTurns.{thrown, first_goes}
use Rattle.pull_rules.proofs.transducing.first_called.Goals as goal

pub returns-in-Thrown : goal.returns-in-Thrown
returns-in-Thrown c = thrown (plain c.args.transducer.value) (λ stages. call (plain c.args.function.value) [] (λ init. transduce_rule stages (plain c.args.function.value) init (plain c.args.source.value))) c.in-Thrown.why c.not_two.result (subst (λ o. Opens (with_stages (plain c.args.transducer.value)) o) c.in-Thrown.is c.in_ok-what.ensures.opens) c.not_two.ensures

pub returns-in_ok-next-in-Stages : goal.returns-in_ok-next-in-Stages
returns-in_ok-next-in-Stages c = first_goes (plain c.args.transducer.value) (plain c.args.function.value) c.in-Stages.stages c.args.function c.args.source c.in_ok-next-in-Stages.next refl (subst (λ o. Opens (with_stages (plain c.args.transducer.value)) o) c.in-Stages.is c.in_ok-what.ensures.opens) (subst (λ o. IfStages o AreFresh) c.in-Stages.is c.in_ok-what.ensures.fresh) c.in_ok-next-in-Stages.ensures
