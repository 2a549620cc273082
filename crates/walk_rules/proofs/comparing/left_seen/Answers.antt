use Rattle.seq_plan.specs.Plan.{seq}
use Rattle.seq_turns.specs.Seen.{seen}
use Rattle.seq_turns.proofs.Taking.{in_ok, takes_found}
use Rattle.seq_values.specs.Plain.{plain}
use Rattle.walk_rules.specs.Left.{compares, resolved, walking}
use Rattle.walk_rules.proofs.comparing.left_seen.Goals as goal

pub returns-in-Now : goal.returns-in-Now
returns-in-Now c = in_ok walking c.equal_right.result (λ n h. takes_found walking (plain c.args.left.value) (seen c.in-Now.what) (λ s. seq (plain c.args.right.value) (λ t. compares s t (resolved c.args.pending))) (rw c.in-Now.is at c.seek.ensures) h) c.equal_right.ensures
