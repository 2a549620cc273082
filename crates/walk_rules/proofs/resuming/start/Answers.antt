use Rattle.seq_turns.specs.Seen.{seen}
use Rattle.seq_turns.proofs.Taking.{in_ok, takes_found}
use Rattle.seq_values.specs.Plain.{plain}
use Rattle.walk_rules.specs.Left.{left_seq, walking}
use Rattle.walk_rules.proofs.resuming.start.Goals as goal

pub returns-in-Now : goal.returns-in-Now
returns-in-Now c = in_ok walking c.on_seq.result (λ n h. takes_found walking (plain c.args.value.value) (seen c.in-Now.what) (left_seq c.args.next) (rw c.in-Now.is at c.seek.ensures) h) c.on_seq.ensures
