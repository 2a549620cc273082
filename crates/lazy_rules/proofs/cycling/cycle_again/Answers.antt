use Rattle.std.proofs.Common.{ap}
use Rattle.seq_values.specs.Plain.{plain}
use Rattle.lazy_rules.proofs.Taking.{now_ok, asks_goes}
use Rattle.lazy_rules.specs.Left.{left_seq}
use Rattle.lazy_rules.specs.declared.state.AtSeq.TheVariants as Q
use Rattle.lazy_rules.proofs.cycling.cycle_again.Goals as goal

pub returns-in-Now : goal.returns-in-Now
returns-in-Now c = now_ok (λ s. left_seq (Q.CycleAgain c.args.whole) s) c.cycle_again_at.result (ap plain c.in_ok-source.ensures) (rw c.in-Now.is at c.seek.ensures) c.cycle_again_at.ensures

pub returns-in-Ask : goal.returns-in-Ask
returns-in-Ask c = let q = rw c.in-Ask.is at c.seek.ensures in asks_goes (λ s. left_seq (Q.CycleAgain c.args.whole) s) (ap plain c.in_ok-source.ensures) q.0 c.seeks.ensures
