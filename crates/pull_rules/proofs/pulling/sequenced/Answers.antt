use Rattle.std.proofs.Common.{◌≡◌, Some, subst}
use Rattle.seq_values.specs.Plain.{plain}
use Rattle.seq_plan.specs.Plan.{give}
use Rattle.seq_plan.specs.Stages.{with_stages, fresh}
use Rattle.seq_values.specs.Model as M
use Rattle.stage_rows.specs.Table.{make_pull}
use Rattle.seq_plan.specs.WellFormed.{sight}
use Rattle.xf_stages.specs.Opening.{Opens, IfStages, AreFresh, kept_in, seen_kept}
use Rattle.pull_rules.proofs.TransduceTurns.{thrown}
use Rattle.pull_rules.proofs.PullTurns.{sequence_makes}
use Rattle.pull_rules.proofs.pulling.sequenced.Goals as goal

pub makes_pull-requires : goal.makes_pull-requires
makes_pull-requires c = subst (λ o. IfStages o (λ s. seen_kept (sight (plain c.args.transducer.value)) ≡ Some (kept_in s))) c.in-Stages.is c.in_ok-what.ensures.kept

pub returns-in-Thrown : goal.returns-in-Thrown
returns-in-Thrown c = thrown (plain c.args.transducer.value) (λ stages. make_pull (plain c.args.transducer.value) (fresh stages) (plain c.args.source.value) (λ m. give (M.cell m))) c.in-Thrown.why c.not_pulled.result (subst (λ o. Opens (with_stages (plain c.args.transducer.value)) o) c.in-Thrown.is c.in_ok-what.ensures.opens) c.not_pulled.ensures

pub returns-in_ok-next-in-Stages : goal.returns-in_ok-next-in-Stages
returns-in_ok-next-in-Stages c = sequence_makes c.args.transducer.value c.args.source.value c.in-Stages.stages c.in_ok-next-in-Stages.next (subst (λ o. Opens (with_stages (plain c.args.transducer.value)) o) c.in-Stages.is c.in_ok-what.ensures.opens) (subst (λ o. IfStages o AreFresh) c.in-Stages.is c.in_ok-what.ensures.fresh) c.in_ok-next-in-Stages.ensures
