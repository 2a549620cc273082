use Rattle.ahead_rules.proofs.Sequences.{term_is_well}
use Rattle.ahead_rules.proofs.handing.term.Goals as goal

pub returns-clause-well : goal.returns-clause-well
returns-clause-well c = term_is_well (record { op = c.args.op; args = c.args.args.items }) c.args.args.well c.requires
