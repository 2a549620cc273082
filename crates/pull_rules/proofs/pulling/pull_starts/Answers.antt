use Rattle.std.proofs.Common.{refl}
use Rattle.pull_rules.specs.Left.{left_seq}
use Rattle.pull_rules.specs.declared.state.AtSeq.TheVariants as Q
use Rattle.pull_rules.proofs.Taking.{now_ok, asks_goes}
use Rattle.pull_rules.proofs.pulling.pull_starts.Goals as goal

pub returns-in-Now : goal.returns-in-Now
returns-in-Now c = now_ok (λ s. left_seq (Q.Pull c.args.pulling) s) c.pull_seen.result refl (rw c.in-Now.is at c.seek.ensures) c.pull_seen.ensures

pub returns-in-Ask : goal.returns-in-Ask
returns-in-Ask c = let q = rw c.in-Ask.is at c.seek.ensures in asks_goes (λ s. left_seq (Q.Pull c.args.pulling) s) refl q.0 c.seeks.ensures
