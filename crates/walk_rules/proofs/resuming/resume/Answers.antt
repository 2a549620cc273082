use Rattle.seq_turns.specs.Seen.{seen, rested}
use Rattle.seq_turns.proofs.Taking.{in_ok, takes_found}
use Rattle.walk_rules.specs.Left.{left_seq, walking}
use Rattle.walk_rules.proofs.resuming.resume.Goals as goal

pub returns-in-Now : goal.returns-in-Now
returns-in-Now c = in_ok walking c.on_seq.result (λ n h. takes_found walking (rested c.args.rest) (seen c.in-Now.what) (left_seq c.args.next) (rw c.in-Now.is at c.seek_rest.ensures) h) c.on_seq.ensures
