use Rattle.lazy_rules.proofs.Taking.{takes_from, in_ok}
use Rattle.lazy_rules.proofs.concatenating.concat_from.Goals as goal

pub returns-in-Nothing : goal.returns-in-Nothing
returns-in-Nothing c = takes_from (rw c.in-Nothing.is at (c.in_ok-leading.ensures.plan c.args.chunk)) c.gives_nil.ensures

pub returns-in-Last : goal.returns-in-Last
returns-in-Last c = takes_from (rw c.in-Last.is at (c.in_ok-leading.ensures.plan c.args.chunk)) c.gives.ensures

pub returns-in-Node : goal.returns-in-Node
returns-in-Node c = in_ok c.concat_node.result (λ n h. takes_from (rw c.in-Node.is at (c.in_ok-leading.ensures.plan c.args.chunk)) h) c.concat_node.ensures

pub returns-in-Asked : goal.returns-in-Asked
returns-in-Asked c = takes_from (rw c.in-Asked.is at (c.in_ok-leading.ensures.plan c.args.chunk)) c.seeks.ensures
