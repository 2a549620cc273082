use Rattle.seq_values.specs.Plain.{plain}
use Rattle.ahead_rules.proofs.Sequences.{seen_is_seq}
use Rattle.ahead_rules.proofs.handing.given_seq.Goals as goal

pub returns-clause-seq : goal.returns-clause-seq
returns-clause-seq c = seen_is_seq c.args.what (plain c.in_ok-value.value.value) c.in_ok-value.ensures
