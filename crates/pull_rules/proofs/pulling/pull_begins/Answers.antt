use Rattle.std.proofs.Common.{◌≡◌, Some, subst}
use Rattle.seq_values.specs.Plain.{plain}
use Rattle.seq_plan.specs.Stages.{with_stages}
use Rattle.seq_plan.specs.WellFormed.{sight}
use Rattle.xf_stages.specs.Opening.{Opens, IfStages, AreFresh, kept_in, seen_kept}
use Rattle.pull_rules.proofs.PullTurns.{first_arguments, pull_thrown, pull_opened}
use Rattle.pull_rules.proofs.pulling.pull_begins.Goals as goal

pub pull_opens-requires-clause-args : goal.pull_opens-requires-clause-args
pull_opens-requires-clause-args c = (first_arguments c.args.args.now.items c.in_ok-transducer.transducer.value c.in_ok-source.source.value c.in_ok-transducer.ensures c.in_ok-source.ensures)

pub pull_opens-requires-clause-through : goal.pull_opens-requires-clause-through
pull_opens-requires-clause-through c = subst (λ o. IfStages o (λ s. seen_kept (sight (plain c.in_ok-transducer.transducer.value)) ≡ Some (kept_in s))) c.in-Stages.is c.in_ok-what.ensures.kept

pub returns-in-Thrown : goal.returns-in-Thrown
returns-in-Thrown c = pull_thrown c.args.enough c.args.args.now.items c.in_ok-transducer.transducer.value c.in_ok-source.source.value c.in-Thrown.why c.not_pulled.result (first_arguments c.args.args.now.items c.in_ok-transducer.transducer.value c.in_ok-source.source.value c.in_ok-transducer.ensures c.in_ok-source.ensures) (subst (λ o. Opens (with_stages (plain c.in_ok-transducer.transducer.value)) o) c.in-Thrown.is c.in_ok-what.ensures.opens) c.not_pulled.ensures

pub returns-in_ok-next-in-Stages : goal.returns-in_ok-next-in-Stages
returns-in_ok-next-in-Stages c = pull_opened c.args.enough c.args.args.now.items c.in_ok-transducer.transducer.value c.in_ok-source.source.value c.in-Stages.stages c.in_ok-next-in-Stages.next (first_arguments c.args.args.now.items c.in_ok-transducer.transducer.value c.in_ok-source.source.value c.in_ok-transducer.ensures c.in_ok-source.ensures) (subst (λ o. Opens (with_stages (plain c.in_ok-transducer.transducer.value)) o) c.in-Stages.is c.in_ok-what.ensures.opens) (subst (λ o. IfStages o AreFresh) c.in-Stages.is c.in_ok-what.ensures.fresh) c.in_ok-next-in-Stages.ensures
