use Rattle.seq_values.specs.Plain.{plain}
use Rattle.xf_stages.proofs.OpenTurns.{none_opens, some_open, some_fresh, some_kept}
use Rattle.xf_stages.proofs.state.Stages.of.Goals as goal

pub returns-in-None-clause-opens : goal.returns-in-None-clause-opens
returns-in-None-clause-opens c = none_opens (plain c.args.xf.now.value) c.in_ok-work.work c.in_ok-work.ensures.pending (rw c.in-None.is at c.in_ok-found.ensures)

pub returns-in-Some-clause-opens : goal.returns-in-Some-clause-opens
returns-in-Some-clause-opens c = some_open c.args.xf.now c.in_ok-work.work c.in-Some.stages.items c.in_ok-work.ensures.pending c.in_ok-work.ensures.stages (rw c.in-Some.is at c.in_ok-found.ensures) c.limited.result c.limited.ensures

pub returns-in-Some-clause-fresh : goal.returns-in-Some-clause-fresh
returns-in-Some-clause-fresh c = some_fresh c.args.xf.now c.in_ok-work.work c.in-Some.stages.items c.in_ok-work.ensures.pending c.in_ok-work.ensures.stages (rw c.in-Some.is at c.in_ok-found.ensures) c.limited.result c.limited.ensures

pub returns-in-Some-clause-kept : goal.returns-in-Some-clause-kept
returns-in-Some-clause-kept c = some_kept c.args.xf.now c.in_ok-work.work c.in-Some.stages.items c.in_ok-work.ensures.pending c.in_ok-work.ensures.stages (rw c.in-Some.is at c.in_ok-found.ensures) c.limited.result c.limited.ensures
