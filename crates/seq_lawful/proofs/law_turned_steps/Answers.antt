use Rattle.seq_lawful.proofs.Turned.{unnoted, stays_failed}
use Rattle.seq_lawful.proofs.law_turned_steps.Goals as goal

pub returns : goal.returns
returns c = record { unnoted = unnoted; stays_failed = stays_failed }
