use Rattle.std.proofs.Common.{refl}
use Rattle.seq_values.specs.declared.words.Op.TheVariants as O
use Rattle.pull_rules.proofs.PullTurns.{term_formed_by}
use Rattle.pull_rules.proofs.pulling.pull_term.Goals as goal

pub invariant_of-result : goal.invariant_of-result
invariant_of-result c = record { well = term_formed_by (record { op = O.Pull; args = c.args.args.items }) refl c.args.args.well c.requires }
