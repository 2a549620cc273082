use Rattle.seq_values.specs.Plain.{plain}
use Rattle.lazy_rules.proofs.Taking.{now_ok, asks_goes}
use Rattle.lazy_rules.specs.Left.{apply_at}
use Rattle.lazy_rules.proofs.applying.drop_while_goes.Goals as goal

pub returns-in-Now : goal.returns-in-Now
returns-in-Now c = now_ok (λ t. apply_at c.args.applying.purpose c.args.applying.chunk (plain c.args.applying.function.value) t) c.apply_at.result c.in_ok-rest.ensures (rw c.in-Now.is at c.seek_rest.ensures) c.apply_at.ensures

pub returns-in-Ask : goal.returns-in-Ask
returns-in-Ask c = let q = rw c.in-Ask.is at c.seek_rest.ensures in asks_goes (λ t. apply_at c.args.applying.purpose c.args.applying.chunk (plain c.args.applying.function.value) t) c.in_ok-rest.ensures q.0 c.seeks.ensures
